use Rattle.std.proofs.Common.{◌≡◌, ◌<◌, ◌≤◌, ℕ, length}
use Rattle.cpa_sim.specs.Served.{served_at}
use Rattle.cpa_segments.specs.Tracking.{AreTracking}
use Rattle.cpa_segments.specs.Written.{IsWritten}
use Rattle.cpa_segments.proofs.RowLaws.{rows_below}
use Rattle.cpa_segments.proofs.writing.Writing.write_moment.Given as goal

abbrev pub invariant-loop-k : goal.invariant-loop-k
invariant-loop-k g l = record {
  long : length l.self.trackers.items ≡ length l.system.resources;
  tracking : AreTracking l.system l.replay.trace l.k l.time l.replay.time l.self.trackers.items;
  same : (r u : ℕ) → r < l.k → l.time ≤ u → u < l.replay.time → served_at l.system l.replay.trace u r ≡ served_at l.system l.replay.trace l.time r;
  written : IsWritten (g.K.Sink.sent l.fn.sink) (g.K.Sink.sent l.sink) l.fn.self.unsent.items l.self.unsent.items (rows_below l.system l.replay.trace l.time l.k);
  rises : g.K.Sink.faults l.fn.sink ≤ g.K.Sink.faults l.sink;
}
