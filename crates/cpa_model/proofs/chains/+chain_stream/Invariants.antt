use Rattle.std.proofs.Common.{◌≡◌, ◌+◌, ◌-◌, length, take}
use Rattle.std.specs.List.{flat_map}
use Rattle.cpa_model.specs.Chains.{activators, streams_step, streams_within}
use Rattle.cpa_model.proofs.chains.+chain_stream.Given as goal

abbrev pub invariant-loop-after : goal.invariant-loop-after
invariant-loop-after l = l.ahead + length (flat_map (λ a. streams_step a (streams_within (activators l.tasks) (l.left - 1))) (take l.after-index l.after-items)) ≡ l.place

abbrev pub decreases-chain_stream : goal.decreases-chain_stream
decreases-chain_stream l = l.most
