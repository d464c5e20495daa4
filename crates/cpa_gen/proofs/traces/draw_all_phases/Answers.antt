use Rattle.std.proofs.Common.{if◌then◌else◌, ap, ◌∙◌, rules}
use Rattle.cpa_gen.specs.Draws.{after_draws}
use Rattle.cpa_gen.specs.MadeTraces.{before_resource, has_phase, phase_drawn, phases_of}
use Rattle.cpa_gen.proofs.DrawLaws.{draw_later}
use Rattle.cpa_gen.proofs.ListLaws.{table_more}
use Rattle.cpa_gen.proofs.ShiftLaws.{after_more, before_resource-more}
use Rattle.cpa_gen.proofs.traces.draw_all_phases.Goals as goal

pub loop-r-preserved : goal.loop-r-preserved
loop-r-preserved c g e =
    let s = c.args.system.now in
    let r = c.loop-r.r in
    let now = c.loop-r.invariant g e in
    let drawn = c.draw_phase.ensures.value ∙ ap (λ d. if has_phase s r then d else 0) (draw_later g c.loop-r.rng (before_resource s r) (phases_of s r) now.0) in (
      after_more g c.loop-r.rng c.draw_phase.new.rng (before_resource s r) (if has_phase s r then 1 else 0) now.0 c.draw_phase.ensures.taken ∙ ap (after_draws g) (before_resource-more s r),
      table_more (phase_drawn s g) r c.loop-r.phases.items _ c.draw_phase.result now.1 drawn (search rules),
    )
