use Rattle.std.proofs.Common.{◌≡◌, ◌-◌, ◌<◌, ◌≤◌, ℕ, Some}
use Rattle.cpa_units.specs.declared.limits.TheConstants.{HORIZON}
use Rattle.cpa_sim.specs.Served.{served_at}
use Rattle.cpa_segments.specs.Tracking.{IsAhead}
use Rattle.cpa_segments.proofs.tracking.find_segment_end.Given as goal

abbrev pub invariant-going : goal.invariant-going
invariant-going l = record {
  ahead : IsAhead l.fn.tracker.replay.system l.fn.tracker.replay.trace l.tracker;
  past : l.start < l.tracker.replay.time;
  each : (u : ℕ) → l.start ≤ u → u < l.tracker.since → served_at l.fn.tracker.replay.system l.fn.tracker.replay.trace u l.res.0 ≡ Some l.job;
  last : l.tracker.last ≡ l.fn.tracker.last;
}

abbrev pub decreases-going : goal.decreases-going
decreases-going l = HORIZON - l.tracker.replay.time
