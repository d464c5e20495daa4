use Rattle.std.proofs.Common.{◌≡◌, ℕ, ◌<◌, length}
use Rattle.cpa_sim.specs.Simulation.{dispatch_at, IsFirst}
use Rattle.cpa_sim.proofs.simulation.start_dispatches.Given as goal

abbrev pub invariant-loop-k : goal.invariant-loop-k
invariant-loop-k l = record {
  count : length l.dispatches.items ≡ l.k;
  first : (r : ℕ) → r < l.k → IsFirst l.system r (dispatch_at l.dispatches.items r);
}
