-- The segments of a run: how long one job at a time gets the ticks of a resource.
use Rattle.std.specs.Prelude.{ℕ, zero, suc, ◌≡◌, ◌<◌, ◌≤◌, ◌-◌, ◌+◌, Bool, false, ◌&&◌, ◌==◌, not, if◌then◌else◌, List, [], ◌∷◌, length, Option, Some, None}
use Rattle.std.specs.List.{flat_map, range_with_len}
use Rattle.cpa_units.specs.declared.places.TaskId.{TaskId}
use Rattle.cpa_units.specs.Search.{least_from}
use Rattle.cpa_model.specs.SystemLists.{SystemLists, task_at}
use Rattle.cpa_trace.specs.Trace.{TraceLists}
use Rattle.cpa_sim.specs.declared.jobs.Served.{Served}
use Rattle.cpa_sim.specs.Outcome.{end_of}
use Rattle.cpa_sim.specs.Served.{served_at}
use Rattle.cpa_audit.specs.declared.schedule.Segment.{Segment}

-- the place of the resource that a task runs on
abbrev pub resource_of : SystemLists → TaskId → ℕ
resource_of s task = (task_at s task.0).res.0

-- whether two jobs are one
abbrev pub same_job : Served → Served → Bool
same_job a b = a.task.0 == b.task.0 && a.job == b.job

abbrev pub is_job : Option Served → Served → Bool
is_job None j = false
is_job (Some k) j = same_job k j

-- whether a job gets the tick on a resource
unfoldable pub gets : SystemLists → TraceLists → ℕ → Served → ℕ → Bool
gets s tr r j t = is_job (served_at s tr t r) j

-- who got the tick before a time
abbrev pub last_served : SystemLists → TraceLists → ℕ → ℕ → Option Served
last_served s tr r zero = None
last_served s tr r (suc t) = served_at s tr t r

-- the first time from one on at which a job doesn't get the tick, or else the end of the run
unfoldable pub stop_of : SystemLists → TraceLists → ℕ → Served → ℕ → ℕ
stop_of s tr r j t = least_from (λ e. not (gets s tr r j e)) t (end_of s tr - t)

-- the segment that starts with a tick, if the job didn't get the tick before
abbrev pub segment_by : SystemLists → TraceLists → ℕ → ℕ → Option Served → List Segment
segment_by s tr t r None = []
segment_by s tr t r (Some j) = if is_job (last_served s tr r t) j then [] else record { task = j.task; start = t; end = stop_of s tr r j t } ∷ []

unfoldable pub segment_at : SystemLists → TraceLists → ℕ → ℕ → List Segment
segment_at s tr t r = segment_by s tr t r (served_at s tr t r)

-- the segments that start at a time, in the order of the resources
unfoldable pub starting : SystemLists → TraceLists → ℕ → List Segment
starting s tr t = flat_map (segment_at s tr t) (range_with_len 0 (length s.resources))

-- those that start before a time, in the order of their starts
unfoldable pub started : SystemLists → TraceLists → ℕ → List Segment
started s tr t = flat_map (starting s tr) (range_with_len 0 t)

-- all of a run up to its end
unfoldable pub segments : SystemLists → TraceLists → List Segment
segments s tr = started s tr (end_of s tr)

-- a job of a task gets the tick, on the task's resource
abbrev pub Gets : SystemLists → TraceLists → TaskId → ℕ → ℕ → Type 0
Gets s tr task job t = served_at s tr t (resource_of s task) ≡ Some (record { task = task; job = job })

-- one job of the task gets each tick from the start to before the end, and neither the tick before the start nor, if the run goes on
-- there, the tick at the end
pub record IsSegment (s : SystemLists) (tr : TraceLists) (seg : Segment) : Type 0 where
  pub job : ℕ
  pub task : seg.task.0 < length s.tasks
  pub some : seg.start < seg.end
  pub within : seg.end ≤ end_of s tr
  pub each : (t : ℕ) → seg.start ≤ t → t < seg.end → Gets s tr seg.task job t
  pub not_before : (t : ℕ) → t + 1 ≡ seg.start → Gets s tr seg.task job t → ⊥
  pub not_after : seg.end < end_of s tr → Gets s tr seg.task job seg.end → ⊥
