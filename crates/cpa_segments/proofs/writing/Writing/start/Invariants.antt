use Rattle.std.proofs.Common.{◌≡◌, length}
use Rattle.cpa_segments.specs.Tracking.{AreTracking}
use Rattle.cpa_segments.proofs.writing.Writing.start.Given as goal

abbrev pub invariant-loop-k : goal.invariant-loop-k
invariant-loop-k l = record {
  long : length l.trackers.items ≡ l.k;
  tracking : AreTracking l.system l.trace 0 0 0 l.trackers.items;
}
