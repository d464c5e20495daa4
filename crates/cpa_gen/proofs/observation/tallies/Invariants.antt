use Rattle.std.proofs.Common.{◌≡◌, map}
use Rattle.std.specs.List.{range_with_len}
use Rattle.cpa_gen.specs.Adding.{tally_of}
use Rattle.cpa_gen.proofs.observation.tallies.Given as goal

abbrev pub invariant-loop-i : goal.invariant-loop-i
invariant-loop-i l = l.tallies.items ≡ map (tally_of l.outcome) (range_with_len 0 l.i)
