use Rattle.std.proofs.Common.{◌≡◌, map}
use Rattle.std.specs.List.{range_with_len}
use Rattle.cpa_gen.specs.Adding.{tally_plus}
use Rattle.cpa_gen.specs.Seen.{tally_at}
use Rattle.cpa_gen.proofs.observation.tallies_plus.Given as goal

abbrev pub invariant-loop-i : goal.invariant-loop-i
invariant-loop-i l = l.tallies.items ≡ map (λ i. tally_plus (tally_at l.a i) (tally_at l.b i)) (range_with_len 0 l.i)
