use Rattle.std.proofs.Common.{◌≡◌, map}
use Rattle.std.specs.List.{range_with_len}
use Rattle.cpa_gen.specs.Chains.{chain_at}
use Rattle.cpa_gen.specs.MadeSystems.{made_source}
use Rattle.cpa_gen.proofs.systems.make_sources.Given as goal

abbrev pub invariant-loop-k : goal.invariant-loop-k
invariant-loop-k l = l.sources.items ≡ map (λ k. made_source k (chain_at l.chains k)) (range_with_len 0 l.k)
