use Rattle.std.proofs.Common.{ap, ap₂, ◌∙◌, sym}
use Rattle.cpa_model.specs.SystemLists.{source_at}
use Rattle.cpa_gen.specs.Draws.{after_draws}
use Rattle.cpa_gen.specs.MadeTraces.{before_source, late_drawn}
use Rattle.cpa_gen.proofs.TimeLaws.{late_drawn-within}
use Rattle.cpa_gen.proofs.ShiftLaws.{first_resource_draw, first_task_draw}
use Rattle.cpa_gen.proofs.ObeyLaws.{drawn_is, drawn_lists, times_order}
use Rattle.cpa_gen.proofs.traces.drawn_trace.Goals as goal

pub of_lists-requires : goal.of_lists-requires
of_lists-requires c =
    let s = c.args.system.now in
    let g = c.args.rng in
    times_order s c.draw_all_times.ensures.rules (λ j. late_drawn g (before_source s j) (source_at s j)) (λ j. late_drawn-within g (before_source s j) (source_at s j)) _ c.in_ok-times.ensures.times

pub returns-clause-value : goal.returns-clause-value
returns-clause-value c =
    let s = c.args.system.now in
    let g = c.args.rng in
    let first = c.in_ok-times.ensures.taken ∙ ap (after_draws g) (first_task_draw s) in
    let executions = c.in_ok-executions.ensures.executions g first in
    let second = c.in_ok-executions.ensures.taken g first ∙ ap (after_draws g) (first_resource_draw s) in
    let phases = c.in_ok-phases.ensures g second in
    c.of_lists.ensures ∙ ap₂ (λ a b. record { times = a; executions = b; phases = c.in_ok-phases.phases.items }) c.in_ok-times.ensures.times executions
    ∙ ap (λ p. record { times = (drawn_lists s g).times; executions = (drawn_lists s g).executions; phases = p }) phases ∙ sym (drawn_is s g)
