use Rattle.std.proofs.Common.{◌≡◌}
use Rattle.std.specs.List.{range_with_len}
use Rattle.cpa_gen.specs.Seen.{seen_over}
use Rattle.cpa_gen.proofs.hammering.hammer_one_by_one.Given as goal

abbrev pub invariant-loop-k : goal.invariant-loop-k
invariant-loop-k l = l.total ≡ seen_over l.system l.x l.number (range_with_len 0 l.k)
