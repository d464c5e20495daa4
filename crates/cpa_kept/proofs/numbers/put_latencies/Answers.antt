use Rattle.std.proofs.Common.{◌≡◌, ◌<◌, map, length, get_or, set, ap, sym, ◌∙◌, arith}
use Rattle.std.proofs.lemmas.List.{length-map}
use Rattle.cpa_units.specs.Words.{word_of}
use Rattle.cpa_model.specs.SystemLists.{no_path}
use Rattle.cpa_local.specs.Paths.{path_worst}
use Rattle.cpa_kept.specs.Numbers.{latencies_of}
use Rattle.cpa_kept.proofs.NumberLaws.{put-more, get-mapped}
use Rattle.cpa_kept.proofs.numbers.put_latencies.Goals as goal

pub loop-k-preserved : goal.loop-k-preserved
loop-k-preserved c =
    let x = c.args.bounds.now in
    let paths = c.args.system.now.paths in
    let ws = map word_of (latencies_of c.args.system.now x) in
    let k = c.loop-k.k in
    let here : k < length paths = omega arith in
    let room : k < length c.args.out.now = omega arith in
    let long : k < length ws = omega (arith, here, length-map (latencies_of c.args.system.now x) word_of, length-map paths (path_worst x)) in
    let next : c.number.result ≡ get_or ws k 0 = c.number.ensures ∙ ap word_of c.path_worst.ensures ∙ sym (get-mapped word_of (path_worst x) paths k no_path here) in
    ap (λ o. set o k c.number.result) c.loop-k.invariant ∙ put-more ws c.args.out.now k c.number.result long room next
