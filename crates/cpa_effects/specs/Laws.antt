-- The laws that the crate's public functions state.
use Rattle.std.specs.Prelude.{◌≡◌, ℕ, ◌+◌, ◌<◌, ◌≤◌, List, length, All}
use Rattle.cpa_units.specs.declared.bound.Bound.{Bound}
use Rattle.cpa_units.specs.declared.bound.Bound.TheVariants.{Within}
use Rattle.cpa_units.specs.declared.places.TaskId.{TaskId}
use Rattle.cpa_model.specs.SystemLists.{SystemLists, streams_of}
use Rattle.cpa_model.specs.Rules.{IsSystem}
use Rattle.cpa_local.specs.Solution.{IsClosed, IsLeast}
use Rattle.cpa_trace.specs.Trace.{TraceLists, Obeys}
use Rattle.cpa_sound.specs.BoundsHold.{HasJob, arrival_of, SourcesStayNear, BoundsHold}
use Rattle.cpa_effects.specs.declared.steps.Reading.{Reading}
use Rattle.cpa_effects.specs.Bounds.{task_in, last_in, latency_by, reaction_by, age_by, held_by}
use Rattle.cpa_effects.specs.Effects.{Reads, ReadsBy, IsAmidst, FollowsOn, IsFirstToRead, GoesForward, GoesBackward, IsRunning, IsAnswered, IsFed, IsHeld, HasEnded}

-- a chain has a task at least, and each is a task of the system
pub record IsChain (s : SystemLists) (tasks : List TaskId) : Type 0 where
  pub some : 0 < length tasks
  pub there : All (λ (i : TaskId). i.0 < length s.tasks) tasks

-- in the run of one trace, as it is seen at any time, and whenever its jobs read, so far as that is presumed
pub record ChainHolds (reading : Reading) (s : SystemLists) (x : List Bound) (tr : TraceLists) (tasks : List TaskId) : Type 0 where
  -- from the arrival of a job of the first task it is no longer than the latency to the end of the first job of the last task that knows of it
  pub latency : (r t : ℕ) (reads : Reads) (jobs : ℕ → ℕ) (ended : ℕ) → latency_by reading s x tasks ≡ Within r → ReadsBy reading s tr t reads tasks
      → GoesForward s tr t reads tasks jobs ended
      → ended ≤ arrival_of s tr t (task_in tasks 0).0 (jobs 0) + r
  -- from any time, which all jobs of the first task up to one missed, it is no longer than the reaction time
  pub reaction : (r t time : ℕ) (reads : Reads) (jobs : ℕ → ℕ) (ended : ℕ) → reaction_by reading s x tasks ≡ Within r → ReadsBy reading s tr t reads tasks
      → IsFirstToRead s tr t reads (task_in tasks 0).0 (jobs 0) time → FollowsOn s tr t (task_in tasks 0).0 (jobs 0)
      → GoesForward s tr t reads tasks jobs ended → ended ≤ time + r
  -- and there are such jobs: what comes at any time is answered within the reaction time, where the streams of all tasks had begun by then,
  -- each with a job that ended, and have a job once that time is over
  pub answered : (r t time : ℕ) (reads : Reads) → reaction_by reading s x tasks ≡ Within r → ReadsBy reading s tr t reads tasks
      → ((k : ℕ) → k < length tasks → IsRunning s tr t (task_in tasks k).0 time (time + r)) → IsAnswered s tr t reads tasks time (time + r)
  -- at the end of a job of the last task the job of the first whose data it has arrived no longer ago than the data age
  pub age : (r t : ℕ) (reads : Reads) (jobs : ℕ → ℕ) (ended : ℕ) → age_by reading s x tasks ≡ Within r → ReadsBy reading s tr t reads tasks
      → GoesBackward s tr t reads tasks jobs ended
      → ended ≤ arrival_of s tr t (task_in tasks 0).0 (jobs 0) + r
  -- and there is such a job: each job of the last task that has ended has data of the first, where the streams of all others had begun a data
  -- age before, each with a job that ended, and have a job once it has ended
  pub fed : (r t start n ended : ℕ) (reads : Reads) → age_by reading s x tasks ≡ Within r → ReadsBy reading s tr t reads tasks
      → HasEnded s tr t (last_in tasks).0 n ended → start + r ≤ ended
      → ((k : ℕ) → k + 1 < length tasks → IsRunning s tr t (task_in tasks k).0 start ended) → IsFed s tr t reads tasks n ended
  -- at any time the job of the first task whose data the register of the last holds arrived no longer ago than data is held
  pub held : (r t time : ℕ) (reads : Reads) (jobs : ℕ → ℕ) → held_by reading s x tasks ≡ Within r → ReadsBy reading s tr t reads tasks → time ≤ t
      → IsHeld s tr t reads tasks jobs time
      → time ≤ arrival_of s tr t (task_in tasks 0).0 (jobs 0) + r
  -- and there is such a job: the register holds data of the first, where the streams of all tasks had begun so long before, each with a job
  -- that ended, and have a job at that time or later
  pub filled : (r t start time : ℕ) (reads : Reads) → held_by reading s x tasks ≡ Within r → ReadsBy reading s tr t reads tasks → start + r ≤ time
      → ((k : ℕ) → k < length tasks → IsRunning s tr t (task_in tasks k).0 start time)
      → (jobs : ℕ → ℕ) × IsHeld s tr t reads tasks jobs time

-- wherever bounds hold, and the events of the sources stay near, the bounds of chains do
abbrev pub HeldBoundsBoundChains : Type 0
HeldBoundsBoundChains =
    (s : SystemLists) (x : List Bound) → IsSystem s → BoundsHold s x → (tr : TraceLists) → Obeys s tr → SourcesStayNear s tr
    → (tasks : List TaskId) → IsChain s tasks → (reading : Reading) → ChainHolds reading s x tr tasks

-- so they do for each closed vector
abbrev pub ClosedVectorsBoundChains : Type 0
ClosedVectorsBoundChains =
    (s : SystemLists) (x : List Bound) → IsSystem s → IsClosed s x → (tr : TraceLists) → Obeys s tr → SourcesStayNear s tr
    → (tasks : List TaskId) → IsChain s tasks → (reading : Reading) → ChainHolds reading s x tr tasks

-- and for the least solution
abbrev pub LeastSolutionsBoundChains : Type 0
LeastSolutionsBoundChains =
    (s : SystemLists) (x : List Bound) → IsSystem s → IsLeast s x → (tr : TraceLists) → Obeys s tr → SourcesStayNear s tr
    → (tasks : List TaskId) → IsChain s tasks → (reading : Reading) → ChainHolds reading s x tr tasks

-- of a task with one stream each job but the last that is there is amidst it
abbrev pub OneStreamGoesOn : Type 0
OneStreamGoesOn =
    (s : SystemLists) (tr : TraceLists) → IsSystem s → Obeys s tr → (t i k : ℕ) → i < length s.tasks → length (streams_of s i) ≡ 1
    → HasJob s tr t i (k + 1) → IsAmidst s tr t i k

-- data is held as long as a reaction takes
abbrev pub HeldIsReaction : Type 0
HeldIsReaction = (reading : Reading) (s : SystemLists) (x : List Bound) (tasks : List TaskId) → reaction_by reading s x tasks ≡ held_by reading s x tasks
