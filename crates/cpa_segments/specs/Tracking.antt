-- What is known of a resource that is followed along a run.
use Rattle.std.specs.Prelude.{◌≡◌, ℕ, ◌<◌, ◌≤◌, nat_lt, if◌then◌else◌, List, Some, slice_get}
use Rattle.cpa_model.specs.SystemLists.{SystemLists}
use Rattle.cpa_model.specs.Rules.{IsSystem}
use Rattle.cpa_trace.specs.Trace.{TraceLists}
use Rattle.cpa_sim.specs.Outcome.{CanReplay, end_of}
use Rattle.cpa_sim.specs.Served.{served_at}
use Rattle.cpa_audit.specs.Segments.{last_served}
use Rattle.cpa_segments.specs.declared.tracking.SegmentTracker.{SegmentTracker}

-- its replay is one of this run, with the moment before its time
pub record IsAhead (s : SystemLists) (tr : TraceLists) (f : SegmentTracker) : Type 0 where
  pub rules : IsSystem s
  pub can : CanReplay s tr
  pub system : f.replay.system ≡ s
  pub trace : f.replay.trace ≡ tr
  pub since : f.since ≡ f.replay.since
  pub later : 0 < f.replay.time → f.since < f.replay.time
  pub within : f.replay.time ≤ end_of s tr

-- a resource was followed to a time: its job of the tick before is known, and its replay is past the time only as far as that job goes on
pub record IsTracking (s : SystemLists) (tr : TraceLists) (r t : ℕ) (f : SegmentTracker) : Type 0 where
  pub ahead : IsAhead s tr f
  pub last : f.last ≡ last_served s tr r t
  pub goes : (u : ℕ) → t ≤ u → u < f.since → served_at s tr u r ≡ f.last

-- the first so many resources were followed to the next moment, the others to the one before
abbrev pub AreTracking : SystemLists → TraceLists → ℕ → ℕ → ℕ → List SegmentTracker → Type 0
AreTracking s tr k t next fs = (r : ℕ) (f : SegmentTracker) → slice_get fs r ≡ Some f → IsTracking s tr r (if nat_lt r k then next else t) f
