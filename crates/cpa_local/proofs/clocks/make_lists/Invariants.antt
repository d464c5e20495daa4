use Rattle.std.proofs.Common.{◌≡◌, length}
use Rattle.cpa_local.proofs.clocks.make_lists.Given as goal

abbrev pub invariant-loop : goal.invariant-loop
invariant-loop l = length l.anchors.items ≡ l.counter
