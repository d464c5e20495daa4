use Rattle.std.proofs.Common.{◌≡◌, ℕ, map, length, sym, ap, ◌∙◌, arith}
use Rattle.cpa_units.specs.declared.bound.Bound.TheVariants.{Within}
use Rattle.cpa_units.specs.Bounds.{bound_of}
use Rattle.cpa_units.specs.Words.{word_of}
use Rattle.cpa_units.proofs.PlaceLaws.{places, map-places_more, map-all_places}
use Rattle.cpa_workers.proofs.board_words.words.Goals as goal

pub loop-place-preserved : goal.loop-place-preserved
loop-place-preserved c =
    rw (c.in_ok-push.ensures.items, c.loop-place.invariant, c.word.ensures, c.get.ensures)
    (sym (map-places_more (λ i. word_of (bound_of c.args.x.now i)) c.loop-place.place))

pub returns-clause-words : goal.returns-clause-words
returns-clause-words c =
    let over = c.loop-place-test.false in
    let most = c.loop-place.auto.place-end in
    let count = c.tasks-place-end.ensures.count in
    let long = c.requires.long in
    let end : c.loop-place.place ≡ length c.args.x.now = omega arith in
    c.loop-place.invariant ∙ ap (λ (k : ℕ). map (λ i. word_of (bound_of c.args.x.now i)) (places k)) end ∙ map-all_places word_of c.args.x.now (Within 0)
