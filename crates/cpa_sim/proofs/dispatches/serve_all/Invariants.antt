use Rattle.std.proofs.Common.{◌≡◌, ℕ, ◌<◌, ◌≤◌, length, false}
use Rattle.cpa_units.specs.Sets.{holds}
use Rattle.cpa_model.specs.SystemLists.{task_at}
use Rattle.cpa_trace.specs.Trace.{need}
use Rattle.cpa_sim.specs.JobQueues.{served_queue}
use Rattle.cpa_sim.specs.Simulation.{queue_at, dispatch_at, runs_at, IsServed}
use Rattle.cpa_sim.proofs.dispatches.serve_all.Given as goal

abbrev pub invariant-loop-k : goal.invariant-loop-k
invariant-loop-k l = record {
  count : length l.queues.items ≡ length l.system.tasks;
  ran : (i : ℕ) → i < length l.system.tasks → (task_at l.system i).res.0 < l.k → queue_at l.queues.items i ≡ served_queue (need l.system l.trace i) (runs_at (dispatch_at l.fn.dispatches.items (task_at l.system i).res.0) i) l.ticks l.now (queue_at l.initial.queues.items i);
  still : (i : ℕ) → i < length l.system.tasks → l.k ≤ (task_at l.system i).res.0 → queue_at l.queues.items i ≡ queue_at l.initial.queues.items i;
  served : (r : ℕ) → r < l.k → IsServed l.system r l.initial.queues.items l.ticks (dispatch_at l.fn.dispatches.items r) (dispatch_at l.dispatch-items r);
  ended : (r : ℕ) → r < l.k → holds l.ended r ≡ (dispatch_at l.dispatch-items r).ends;
  past : (r : ℕ) → l.k ≤ r → holds l.ended r ≡ false;
  same : (r : ℕ) → l.k ≤ r → dispatch_at l.dispatch-items r ≡ dispatch_at l.fn.dispatches.items r;
}
