use Rattle.std.proofs.Common.{◌≡◌, ◌%◌, ◌/◌, map, length}
use Rattle.std.specs.List.{range_with_len}
use Rattle.cpa_gen.specs.Chains.{chain_at}
use Rattle.cpa_gen.specs.MadeSystems.{task_of_chain}
use Rattle.cpa_gen.proofs.systems.make_tasks.Given as goal

abbrev pub invariant-loop-place : goal.invariant-loop-place
invariant-loop-place l = l.tasks.items ≡ map (λ i. task_of_chain (i % 3) (length l.chains) (i / 3) (chain_at l.chains (i / 3))) (range_with_len 0 l.place)
