use Rattle.std.proofs.Common.{ap, ap₂, ◌∙◌, sym, map, rules, List, ℕ}
use Rattle.cpa_model.specs.SystemLists.{source_at}
use Rattle.cpa_gen.specs.Draws.{after_draws}
use Rattle.cpa_gen.specs.MadeTraces.{before_source, events_made, late_drawn, times_made, most_made}
use Rattle.cpa_gen.proofs.DrawLaws.{after_none}
use Rattle.cpa_gen.proofs.ListLaws.{map_push, table_more}
use Rattle.cpa_gen.proofs.ShiftLaws.{before_source-more, after_more, times_shifted}
use Rattle.cpa_gen.proofs.traces.draw_all_times.Goals as goal

pub loop-j-init : goal.loop-j-init
loop-j-init c = (sym (after_none _), search rules)

pub loop-j-preserved : goal.loop-j-preserved
loop-j-preserved c =
    let s = c.args.system.now in
    let g = c.args.rng.now in
    let j = c.loop-j.j in
    let f : ℕ → List ℕ = λ j. times_made (most_made s) (source_at s j) (late_drawn g (before_source s j) (source_at s j)) in
    let taken = after_more g c.loop-j.rng c.drawn_times.new.rng (before_source s j) (events_made (most_made s) (source_at s j)) c.loop-j.invariant.0 (search rules) in (
      taken ∙ ap (after_draws g) (before_source-more s j),
      table_more f j (map (λ v. v.items) c.loop-j.times.items) _ c.in_ok-drawn_times.field-0.items c.loop-j.invariant.1
          (c.in_ok-drawn_times.ensures.times ∙ ap₂ (λ n r. times_made n r (late_drawn c.loop-j.rng 0 r)) c.most_made-most.ensures.value c.source.ensures.value ∙ times_shifted g c.loop-j.rng (before_source s j) (most_made s) (source_at s j) c.loop-j.invariant.0)
          (map_push (λ v. v.items) c.loop-j.times.items c.push.new.self.items c.in_ok-drawn_times.field-0 c.in_ok-push.ensures.items),
    )
