use Rattle.std.proofs.Common.{◌≡◌, ap, ap₂, ◌∙◌, sym, map, replicate, rules, List, [], ℕ, length}
use Rattle.cpa_model.specs.SystemLists.{source_at}
use Rattle.cpa_gen.specs.MadeTraces.{late_by, times_made, most_made}
use Rattle.cpa_gen.proofs.ListLaws.{table}
use Rattle.cpa_gen.proofs.TimeLaws.{late_by-within}
use Rattle.cpa_gen.proofs.ObeyLaws.{times_order, worst_is}
use Rattle.cpa_gen.proofs.traces.worst_trace.Goals as goal

pub of_lists-requires : goal.of_lists-requires
of_lists-requires c =
    let s = c.args.system.now in
    times_order s c.all_worst_times.ensures.rules (λ j. late_by c.args.late (source_at s j)) (λ j. late_by-within c.args.late (source_at s j)) _ c.in_ok-times.ensures.times

pub returns-clause-value : goal.returns-clause-value
returns-clause-value c =
    let s = c.args.system.now in
    let f : ℕ → List ℕ = λ j. times_made (most_made s) (source_at s j) (late_by c.args.late (source_at s j)) in
    let executions : map (λ v. v.items) c.in_ok-executions.executions.items ≡ replicate (length s.tasks) [] = c.in_ok-executions.ensures ∙ ap (λ n. replicate n []) c.tasks.ensures.count in
    let phases : c.in_ok-phases.phases.items ≡ replicate (length s.resources) 0 = search rules in
    c.of_lists.ensures ∙ ap₂ (λ a b. record { times = a; executions = b; phases = c.in_ok-phases.phases.items }) c.in_ok-times.ensures.times executions
    ∙ ap (λ p. record { times = table f (length s.sources); executions = replicate (length s.tasks) []; phases = p }) phases ∙ sym (worst_is s c.args.late)
