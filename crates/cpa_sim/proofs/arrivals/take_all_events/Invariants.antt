use Rattle.std.proofs.Common.{◌≡◌, ℕ, ◌<◌, ◌≤◌}
use Rattle.cpa_trace.specs.Trace.{times_of}
use Rattle.cpa_sim.specs.SourceCursors.{IsPassed, IsAhead}
use Rattle.cpa_sim.specs.Simulation.{cursor_at}
use Rattle.cpa_sim.specs.Arrivals.{AreGiven}
use Rattle.cpa_sim.proofs.ArrivalLaws.{fed_below}
use Rattle.cpa_sim.proofs.arrivals.take_all_events.Given as goal

abbrev pub invariant-loop-k : goal.invariant-loop-k
invariant-loop-k l = record {
  given : AreGiven l.context.system.now l.context.places.now.items l.now (λ i. fed_below l.context.system.now l.context.trace.now l.now i l.k) l.initial.queues.items l.initial.dispatches.items l.queues.items l.dispatches.items;
  later : l.now < l.next_event;
  soonest : (i : ℕ) → i < l.k → l.next_event ≤ (cursor_at l.cursor-items i).time;
  ahead : (i : ℕ) → i < l.k → IsAhead (times_of l.context.trace.now i) (cursor_at l.cursor-items i).time (cursor_at l.cursor-items i).next;
  passed : (i : ℕ) → i < l.k → IsPassed (times_of l.context.trace.now i) l.now (cursor_at l.cursor-items i).next;
  same : (i : ℕ) → l.k ≤ i → cursor_at l.cursor-items i ≡ cursor_at l.fn.cursors.items i;
}
