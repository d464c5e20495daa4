use Rattle.std.proofs.Common.{◌≡◌, ◌≤◌, ◌-◌, take}
use Rattle.std.specs.Prelude.{IfSome}
use Rattle.cpa_model.specs.Chains.{activators, chain_steps, depth_within}
use Rattle.cpa_model.proofs.chains.+chain_depth.Given as goal

abbrev pub invariant-loop-after : goal.invariant-loop-after
invariant-loop-after l = record {
  value : l.longest ≡ chain_steps (take l.after-index l.after-items) (depth_within (activators l.tasks) (l.most - 1));
  few : IfSome l.longest (λ d. d ≤ l.most);
}

abbrev pub decreases-chain_depth : goal.decreases-chain_depth
decreases-chain_depth l = l.most
