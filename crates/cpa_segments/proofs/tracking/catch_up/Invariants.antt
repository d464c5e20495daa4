use Rattle.std.proofs.Common.{◌≡◌, ◌-◌, ◌≤◌}
use Rattle.cpa_units.specs.declared.limits.TheConstants.{HORIZON}
use Rattle.cpa_segments.specs.Tracking.{IsAhead}
use Rattle.cpa_segments.proofs.tracking.catch_up.Given as goal

abbrev pub invariant-behind : goal.invariant-behind
invariant-behind l = record {
  ahead : IsAhead l.fn.tracker.replay.system l.fn.tracker.replay.trace l.tracker;
  since : l.tracker.since ≤ l.time;
  last : l.tracker.last ≡ l.fn.tracker.last;
}

abbrev pub decreases-behind : goal.decreases-behind
decreases-behind l = HORIZON - l.tracker.replay.time
