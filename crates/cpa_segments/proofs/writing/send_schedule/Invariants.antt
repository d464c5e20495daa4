use Rattle.std.proofs.Common.{◌≡◌, ◌≤◌, ◌-◌, length, []}
use Rattle.cpa_units.specs.declared.limits.TheConstants.{HORIZON}
use Rattle.cpa_sim.specs.Outcome.{end_of}
use Rattle.cpa_audit.specs.Segments.{started}
use Rattle.cpa_segments.specs.Tracking.{AreTracking}
use Rattle.cpa_segments.specs.Rows.{schedule_text}
use Rattle.cpa_segments.specs.Written.{IsWritten}
use Rattle.cpa_segments.proofs.writing.send_schedule.Given as goal

abbrev pub invariant-moments : goal.invariant-moments
invariant-moments g l = record {
  system : l.replay.system ≡ l.system;
  trace : l.replay.trace ≡ l.trace;
  within : l.replay.time ≤ end_of l.system l.trace;
  long : length l.writing.trackers.items ≡ length l.system.resources;
  tracking : AreTracking l.system l.trace 0 l.replay.time l.replay.time l.writing.trackers.items;
  written : IsWritten (g.K.Sink.sent l.fn.sink) (g.K.Sink.sent l.sink) [] l.writing.unsent.items (schedule_text l.system (started l.system l.trace l.replay.time));
  rises : g.K.Sink.faults l.fn.sink ≤ g.K.Sink.faults l.sink;
}

abbrev pub decreases-moments : goal.decreases-moments
decreases-moments g l = HORIZON - l.replay.time
