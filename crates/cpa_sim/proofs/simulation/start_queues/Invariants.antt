use Rattle.std.proofs.Common.{◌≡◌, ℕ, ◌<◌, length}
use Rattle.cpa_trace.specs.Trace.{need}
use Rattle.cpa_sim.specs.JobQueues.{empty_queue}
use Rattle.cpa_sim.specs.Simulation.{queue_at, keeping_of}
use Rattle.cpa_sim.proofs.simulation.start_queues.Given as goal

abbrev pub invariant-loop-k : goal.invariant-loop-k
invariant-loop-k l = record {
  count : length l.queues.items ≡ l.k;
  empty : (i : ℕ) → i < l.k → queue_at l.queues.items i ≡ empty_queue (keeping_of l.system l.trace l.keeps i) (need l.system l.trace i 0);
}
