-- What it is for the bounds of a vector to hold: in every run whose trace obeys, jobs and paths are complete within them, and arrivals keep
-- the distances that the inputs say, as Richter's thesis (2005) claims of its analysis. No window and no demand is mentioned.
--
-- A run is seen at a time t, by the jobs that have arrived up to it and the ends that they have had. No clause limits t, so that each speaks
-- of the run over all times.
use Rattle.std.specs.Prelude.{◌≡◌, ℕ, ◌+◌, ◌<◌, ◌≤◌, ◌==◌, false, List, [], ◌∷◌, length, drop, filter, Some, slice_get, slice_index_or}
use Rattle.std.specs.List.{range_with_len}
use Rattle.cpa_units.specs.declared.bound.Bound.{Bound}
use Rattle.cpa_units.specs.declared.bound.Bound.TheVariants.{Within}
use Rattle.cpa_units.specs.declared.places.SourceId.{SourceId}
use Rattle.cpa_units.specs.declared.places.TaskId.{TaskId}
use Rattle.cpa_units.specs.declared.limits.TheConstants.{MAX_CHAIN}
use Rattle.cpa_units.specs.Bounds.{bound_of, sum_bounds}
use Rattle.cpa_events.specs.declared.stream.Stream.{Stream}
use Rattle.cpa_events.specs.Streams.{stream_delta_minus, stream_delta_plus}
use Rattle.cpa_events.specs.Events.{Model, delta_minus}
use Rattle.cpa_model.specs.declared.entries.Activator.TheVariants.{Task}
use Rattle.cpa_model.specs.declared.entries.Path.{Path}
use Rattle.cpa_model.specs.Rules.{IsPath}
use Rattle.cpa_model.specs.Streams.{source_stream}
use Rattle.cpa_model.specs.SystemLists.{SystemLists, source_at, task_at, may_fall_silent}
use Rattle.cpa_local.specs.Inputs.{input}
use Rattle.cpa_trace.specs.Trace.{TraceLists, times_of, time_of, Obeys}
use Rattle.cpa_sim.specs.Run.{Progress, no_job, run}
use Rattle.cpa_sound.specs.JobStreams.{Causes, stream_within, origin_within}

-- job k of a task, counted from 0 in the order of arrivals, as it is at a time
abbrev pub job_at : SystemLists → TraceLists → ℕ → ℕ → ℕ → Progress
job_at s tr t i k = slice_index_or ((run s tr t).jobs i) k no_job

-- it has arrived by that time
abbrev pub HasJob : SystemLists → TraceLists → ℕ → ℕ → ℕ → Type 0
HasJob s tr t i k = k < length ((run s tr t).jobs i)

-- and this is when
abbrev pub arrival_of : SystemLists → TraceLists → ℕ → ℕ → ℕ → ℕ
arrival_of s tr t i k = (job_at s tr t i k).arrival

-- what started each job, as it is seen at a time
abbrev pub causes_at : SystemLists → TraceLists → ℕ → Causes
causes_at s tr t i k = (job_at s tr t i k).cause

-- the place in its task's streams to which the causes of a job lead
abbrev pub stream_of : SystemLists → TraceLists → ℕ → ℕ → ℕ → ℕ
stream_of s tr t i k = stream_within s (causes_at s tr t) MAX_CHAIN i k

-- and the source
abbrev pub origin_of : SystemLists → TraceLists → ℕ → ℕ → ℕ → SourceId
origin_of s tr t i k = origin_within (causes_at s tr t) MAX_CHAIN i k

-- the jobs of stream q of a task that have arrived by a time, in their order
abbrev pub jobs_of_stream : SystemLists → TraceLists → ℕ → ℕ → ℕ → List ℕ
jobs_of_stream s tr t i q = filter (λ k. stream_of s tr t i k == q) (range_with_len 0 (length ((run s tr t).jobs i)))

-- arrival n of a stream, counted from 0, has come by a time
abbrev pub HasArrival : SystemLists → TraceLists → ℕ → ℕ → ℕ → ℕ → Type 0
HasArrival s tr t i q n = n < length (jobs_of_stream s tr t i q)

-- and this is when
abbrev pub stream_arrival : SystemLists → TraceLists → ℕ → ℕ → ℕ → ℕ → ℕ
stream_arrival s tr t i q n = arrival_of s tr t i (slice_index_or (jobs_of_stream s tr t i q) n 0)

-- at time t job k of a task is there, and it has ended, no later than it was due
pub record IsDoneBy (s : SystemLists) (tr : TraceLists) (t i k due : ℕ) : Type 0 where
  pub there : HasJob s tr t i k
  pub ended : ℕ
  pub is : (job_at s tr t i k).end ≡ Some ended
  pub by : ended ≤ due

-- job k of a task was started by job number of another
abbrev pub IsStartedBy : SystemLists → TraceLists → ℕ → TaskId → ℕ → TaskId → ℕ → Type 0
IsStartedBy s tr t j number i k = HasJob s tr t i.0 k × ((job_at s tr t i.0 k).cause ≡ record { by = Task j; number = number })

-- the passage of job k of a task along further tasks, of each the job that the one before started, has reached a job of the last by time t,
-- which has ended no later than it was due
abbrev pub HasPassedBy : SystemLists → TraceLists → ℕ → TaskId → ℕ → List TaskId → ℕ → Type 0
HasPassedBy s tr t i k [] due = IsDoneBy s tr t i.0 k due
HasPassedBy s tr t i k (next ∷ further) due = (n : ℕ) × IsStartedBy s tr t i k next n × HasPassedBy s tr t next n further due

-- any two events of a source that isn't sporadic are at most δ+ of its model apart: n + gap comes gap events after n
abbrev pub SourcesStayNear : SystemLists → TraceLists → Type 0
SourcesStayNear s tr =
    (k n gap : ℕ) → (source_at s k).sporadic ≡ false → n + gap < length (times_of tr k) → time_of tr k (n + gap) ≤ time_of tr k n + stream_delta_plus (source_stream s k) (gap + 1)

-- the first task of a path, those after it, and the sum of its tasks' bounds
abbrev pub first_of_path : Path → TaskId
first_of_path p = slice_index_or p.tasks 0 (record { 0 = 0 })

abbrev pub further_of_path : Path → List TaskId
further_of_path p = drop 1 p.tasks

abbrev pub bound_of_path : List Bound → Path → Bound
bound_of_path x p = sum_bounds (λ (i : TaskId). bound_of x i.0) p.tasks

-- the bounds hold in the run of one trace
pub record HoldIn (s : SystemLists) (x : List Bound) (tr : TraceLists) : Type 0 where
  -- where the bound of a task is a number r, each of its jobs is complete r after its arrival
  pub in_time : (i r k t : ℕ) → i < length s.tasks → bound_of x i ≡ Within r
      → HasJob s tr t i k → arrival_of s tr t i k + r ≤ t → IsDoneBy s tr t i k (arrival_of s tr t i k + r)
  -- and no job is complete before its task's least execution after its arrival
  pub not_before : (i k t e : ℕ) → i < length s.tasks → HasJob s tr t i k → (job_at s tr t i k).end ≡ Some e
      → arrival_of s tr t i k + (task_at s i).best ≤ e
  -- where the bounds of all tasks of a path are numbers, with the sum r, the passage of each job of its first task reaches a job of its last
  -- task that is complete r after the arrival of the first; this is said of every list of tasks that is a path by the rules
  pub paths : (p : Path) (r k t : ℕ) → IsPath s p → bound_of_path x p ≡ Within r
      → HasJob s tr t (first_of_path p).0 k → arrival_of s tr t (first_of_path p).0 k + r ≤ t
      → HasPassedBy s tr t (first_of_path p) k (further_of_path p) (arrival_of s tr t (first_of_path p).0 k + r)
  -- any two arrivals of a task whose input is bounded are at least δ− of that input apart
  pub apart : (i k gap t : ℕ) (m : Model) → i < length s.tasks → input s x i ≡ Some m → HasJob s tr t i (k + gap)
      → arrival_of s tr t i k + delta_minus m (gap + 1) ≤ arrival_of s tr t i (k + gap)
  -- any two of one stream q of it are at least δ− of that stream apart
  pub streams_apart : (i q n gap t : ℕ) (m : Model) (st : Stream) → i < length s.tasks → input s x i ≡ Some m → slice_get m q ≡ Some st
      → HasArrival s tr t i q (n + gap) → stream_arrival s tr t i q n + stream_delta_minus st (gap + 1) ≤ stream_arrival s tr t i q (n + gap)
  -- any two of one stream are at most its δ+ apart, where the events of the sources stay near and none of the task's streams is sporadic
  pub streams_near : SourcesStayNear s tr → (i q n gap t : ℕ) (m : Model) (st : Stream) → i < length s.tasks → may_fall_silent s i ≡ false → input s x i ≡ Some m
      → slice_get m q ≡ Some st → HasArrival s tr t i q (n + gap)
      → stream_arrival s tr t i q (n + gap) ≤ stream_arrival s tr t i q n + stream_delta_plus st (gap + 1)

-- the bounds hold in every run whose trace obeys
abbrev pub BoundsHold : SystemLists → List Bound → Type 0
BoundsHold s x = (tr : TraceLists) → Obeys s tr → HoldIn s x tr
