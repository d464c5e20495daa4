use Rattle.std.proofs.Common.{◌≡◌, map}
use Rattle.std.specs.List.{range_with_len}
use Rattle.cpa_gen.specs.Seen.{no_tally}
use Rattle.cpa_gen.proofs.observation.Seen.none.Given as goal

abbrev pub invariant-loop : goal.invariant-loop
invariant-loop l = l.tallies.items ≡ map (λ i. no_tally) (range_with_len 0 l.counter)
