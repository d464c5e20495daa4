use Rattle.std.proofs.Common.{◌≡◌, length, arith}
use Rattle.std.proofs.lemmas.List.Elements.{All-push}
use Rattle.cpa_window.specs.Rivals.{IsRival}
use Rattle.cpa_bench.proofs.bounds.rivals_from.Goals as goal

pub loop-place-preserved : goal.loop-place-preserved
loop-place-preserved c =
    record {
      count = omega (arith, c.in_ok-push.ensures.len, c.loop-place.invariant.count);
      each = rw c.in_ok-push.ensures.items (All-push IsRival c.loop-place.list.items c.rival.result c.loop-place.invariant.each c.rival.ensures);
    }
