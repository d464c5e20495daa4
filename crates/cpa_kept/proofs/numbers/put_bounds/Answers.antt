use Rattle.std.proofs.Common.{◌≡◌, ◌<◌, map, length, get_or, set, ap, sym, ◌∙◌, arith}
use Rattle.std.proofs.lemmas.List.{length-map}
use Rattle.cpa_units.specs.declared.bound.Bound.TheVariants.{Within}
use Rattle.cpa_units.specs.Words.{word_of}
use Rattle.cpa_kept.proofs.NumberLaws.{put-more, get-map}
use Rattle.cpa_kept.proofs.numbers.put_bounds.Goals as goal

pub loop-k-preserved : goal.loop-k-preserved
loop-k-preserved c =
    let x = c.args.bounds.now in
    let k = c.loop-k.k in
    let here : k < length x = omega arith in
    let room : k < length c.args.out.now = omega arith in
    let long : k < length (map word_of x) = omega (arith, here, length-map x word_of) in
    let next : c.number.result ≡ get_or (map word_of x) k 0 = c.number.ensures ∙ ap word_of c.get.ensures ∙ sym (get-map word_of x k (Within 0) here) in
    ap (λ o. set o k c.number.result) c.loop-k.invariant ∙ put-more (map word_of x) c.args.out.now k c.number.result long room next
