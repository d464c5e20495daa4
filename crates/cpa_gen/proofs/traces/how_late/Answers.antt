use Rattle.std.proofs.Common.{◌∙◌, ap, ap₂, sym}
use Rattle.cpa_gen.specs.Draws.{draw}
use Rattle.cpa_gen.proofs.DrawLaws.{draw_later, until_is}
use Rattle.cpa_gen.proofs.traces.how_late.Goals as goal

pub returns-then-k-eq2 : goal.returns-then-k-eq2
returns-then-k-eq2 c =
    let s = c.args.system.now in
    until_is s c.args.number c.args.k c.source-source.result.now c.draw-place.result c.draw-event.result c.first_begin.result
    (sym c.has_clocks.ensures.value ∙ c.if-has_clocks.true) c.if-k-eq2.true
    (c.draw-place.ensures.value ∙ ap₂ (λ h n. draw h 0 n) c.generator-rng.ensures (c.from.ensures ∙ c.sources.ensures.count))
    (c.draw-event.ensures.value ∙ draw_later c.generator-rng.result c.draw-place.new.rng 1 10 c.draw-place.ensures.taken ∙ ap (λ h. draw h 1 10) c.generator-rng.ensures)
    c.source-source.ensures.value c.first_begin.ensures.value
