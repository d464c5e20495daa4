use Rattle.std.proofs.Common.{◌≡◌, ℕ, ◌+◌, ◌<◌, ◌≤◌, map}
use Rattle.cpa_trace.specs.Trace.{phase_of}
use Rattle.cpa_model.specs.SystemLists.{places_of}
use Rattle.cpa_sched.specs.Steps.{kind_of}
use Rattle.cpa_sim.specs.Arrivals.{listed}
use Rattle.cpa_sim.specs.Orders.{IsReached}
use Rattle.cpa_sim.specs.Simulation.{dispatch_at, ready, state_now, Foresees, HasEnough}
use Rattle.cpa_sim.proofs.dispatches.foresee_all.Given as goal

abbrev pub invariant-loop-k : goal.invariant-loop-k
invariant-loop-k l = record {
  some : 1 ≤ l.ticks;
  most : l.ticks ≤ l.most;
  foresees : (r : ℕ) → r < l.k → Foresees l.system r (state_now (kind_of l.system r) (dispatch_at l.fn.dispatches.items r)) (ready l.system l.trace l.queues) l.now (phase_of l.trace r) (dispatch_at l.dispatch-items r);
  enough : (r : ℕ) → r < l.k → HasEnough l.queues (dispatch_at l.dispatch-items r);
  reached : (r : ℕ) → r < l.k → IsReached l.system r (places_of (listed (map (λ v. v.items) l.orders.items) r)) l.queues (dispatch_at l.dispatch-items r).waiters;
  fits : (r : ℕ) → r < l.k → (dispatch_at l.dispatch-items r).gone + l.ticks ≤ (dispatch_at l.dispatch-items r).ticks;
  same : (r : ℕ) → l.k ≤ r → dispatch_at l.dispatch-items r ≡ dispatch_at l.fn.dispatches.items r;
}
