use Rattle.std.proofs.Common.{◌≡◌, map}
use Rattle.std.specs.List.{range_with_len}
use Rattle.cpa_gen.specs.Chains.{chain_at}
use Rattle.cpa_gen.specs.MadeSystems.{made_path}
use Rattle.cpa_gen.proofs.systems.make_paths.Given as goal

abbrev pub invariant-loop-k : goal.invariant-loop-k
invariant-loop-k l = l.paths.items ≡ map (λ k. made_path k (chain_at l.chains k)) (range_with_len 0 l.k)
