use Rattle.std.proofs.Common.{◌≡◌, map}
use Rattle.std.specs.List.{range_with_len}
use Rattle.cpa_model.specs.Clocks.{ticking_of, of_sources}
use Rattle.cpa_model.proofs.clocks.gather_clocks.Given as goal

abbrev pub invariant-loop-k : goal.invariant-loop-k
invariant-loop-k l = l.kept.items ≡ map (ticking_of (of_sources l.sources)) (range_with_len 0 l.k)
