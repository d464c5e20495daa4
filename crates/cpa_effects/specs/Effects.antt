-- What comes along a chain of tasks in a run: which job is the first to know of another, and whose data a job has.
--
-- Each task writes into a register at the end of each job, and each job reads the register of the task before once, at any time from its
-- arrival to its end: so bounds hold for jobs that read when they arrive, when they start, or anywhere on their way. A job that reads when
-- another ends sees what that one wrote. The chains and the two ways along them are those of Feiertag et al. ("A Compositional Framework
-- for End-to-End Path Delay Calculation of Automotive Systems under Different Path Semantics", 2008) and of Dürr et al. ("End-to-End
-- Timing Analysis of Sporadic Cause-Effect Chains in Distributed Systems", 2019): immediate forward and backward job chains.
use Rattle.std.specs.Prelude.{◌≡◌, ◌⊎◌, ℕ, ◌+◌, ◌-◌, ◌<◌, ◌≤◌, true, List, length, Some}
use Rattle.cpa_units.specs.declared.places.TaskId.{TaskId}
use Rattle.cpa_model.specs.SystemLists.{SystemLists, streams_of, is_activated_by}
use Rattle.cpa_trace.specs.Trace.{TraceLists}
use Rattle.cpa_sim.specs.Run.{runs_in, run}
use Rattle.cpa_sound.specs.BoundsHold.{job_at, HasJob, arrival_of, stream_of, IsStartedBy}
use Rattle.cpa_effects.specs.declared.steps.Step.TheVariants.{Activation}
use Rattle.cpa_effects.specs.declared.steps.Reading.{Reading}
use Rattle.cpa_effects.specs.declared.steps.Reading.TheVariants.{Anywhere, WhileRunning}
use Rattle.cpa_effects.specs.Bounds.{step_between, task_in, last_in}

-- when each job of each task reads, by task and number
abbrev pub Reads : Type 0
Reads = ℕ → ℕ → ℕ

-- at time t job k of a task is there, and it ended then and then
abbrev pub HasEnded : SystemLists → TraceLists → ℕ → ℕ → ℕ → ℕ → Type 0
HasEnded s tr t i k ended = HasJob s tr t i k × ((job_at s tr t i k).end ≡ Some ended)

-- no job reads before it arrives, or after it has ended
pub record ReadWithin (s : SystemLists) (tr : TraceLists) (t : ℕ) (reads : Reads) : Type 0 where
  pub arrived : (i k : ℕ) → HasJob s tr t i k → arrival_of s tr t i k ≤ reads i k
  pub ended : (i k ended : ℕ) → HasEnded s tr t i k ended → reads i k ≤ ended

-- each job of a task reads in a tick in which the task runs
abbrev pub ReadsRunning : SystemLists → TraceLists → ℕ → Reads → ℕ → Type 0
ReadsRunning s tr t reads i = (k : ℕ) → HasJob s tr t i k → runs_in s tr (reads i k) (run s tr (reads i k)) i ≡ true

-- the jobs of a chain's tasks read so
abbrev pub ReadsBy : Reading → SystemLists → TraceLists → ℕ → Reads → List TaskId → Type 0
ReadsBy Anywhere s tr t reads tasks = ReadWithin s tr t reads
ReadsBy WhileRunning s tr t reads tasks = ReadWithin s tr t reads × ((k : ℕ) → k < length tasks → ReadsRunning s tr t reads (task_in tasks k).0)

-- a stream of a task has a job up to and with number k, and one after it
pub record GoesOn (s : SystemLists) (tr : TraceLists) (t i k q : ℕ) : Type 0 where
  pub before : ℕ
  pub is_before : before ≤ k
  pub before_own : stream_of s tr t i before ≡ q
  pub after : ℕ
  pub is_after : k < after
  pub there : HasJob s tr t i after
  pub after_own : stream_of s tr t i after ≡ q

-- each of its streams has: of a task with one stream, the job isn't the last that is there
abbrev pub IsAmidst : SystemLists → TraceLists → ℕ → ℕ → ℕ → Type 0
IsAmidst s tr t i k = (q : ℕ) → q < length (streams_of s i) → GoesOn s tr t i k q

-- a job comes after one that is amidst the streams: of a task with one stream, it isn't the first
abbrev pub FollowsOn : SystemLists → TraceLists → ℕ → ℕ → ℕ → Type 0
FollowsOn s tr t i k = (before : ℕ) × (k ≡ before + 1) × IsAmidst s tr t i before

-- job k of a task is the first to read at this time or later
pub record IsFirstToRead (s : SystemLists) (tr : TraceLists) (t : ℕ) (reads : Reads) (i k time : ℕ) : Type 0 where
  pub there : HasJob s tr t i k
  pub late : time ≤ reads i k
  pub first : (l : ℕ) → l < k → reads i l < time

-- job k of a task is the last that ended by this time
pub record IsLastToEnd (s : SystemLists) (tr : TraceLists) (t i k time : ℕ) : Type 0 where
  pub ended : ℕ
  pub has : HasEnded s tr t i k ended
  pub early : ended ≤ time
  pub last : (l later : ℕ) → k < l → HasEnded s tr t i l later → time < later

-- job n of a task is the first that reads what job k of the one before wrote, or what was written later
pub record ReadsFirst (s : SystemLists) (tr : TraceLists) (t : ℕ) (reads : Reads) (before : TaskId) (k : ℕ) (next : TaskId) (n : ℕ) : Type 0 where
  pub written : ℕ
  pub has : HasEnded s tr t before.0 k written
  pub first : IsFirstToRead s tr t reads next.0 n written
  pub goes_on : (is_activated_by s before.0 next.0 ≡ true) ⊎ FollowsOn s tr t next.0 n

-- job n of a task is the first to know of job k of the one before: this started it, or it reads first
abbrev pub IsFirstToKnow : SystemLists → TraceLists → ℕ → Reads → TaskId → ℕ → TaskId → ℕ → Type 0
IsFirstToKnow s tr t reads before k next n = IsStartedBy s tr t before k next n ⊎ ReadsFirst s tr t reads before k next n

-- job n of a task reads what job k of the one before wrote last
pub record ReadsLast (s : SystemLists) (tr : TraceLists) (t : ℕ) (reads : Reads) (before : TaskId) (k : ℕ) (next : TaskId) (n : ℕ) : Type 0 where
  pub there : HasJob s tr t next.0 n
  pub ended : ℕ
  pub is : HasEnded s tr t next.0 n ended
  pub last : IsLastToEnd s tr t before.0 k (reads next.0 n)
  pub goes_on : (step_between s before.0 next.0 ≡ Activation) ⊎ IsAmidst s tr t before.0 k

-- job n of a task has the data of job k of the one before: this started it, or it reads what that wrote last
abbrev pub HasDataOf : SystemLists → TraceLists → ℕ → Reads → TaskId → ℕ → TaskId → ℕ → Type 0
HasDataOf s tr t reads before k next n = IsStartedBy s tr t before k next n ⊎ ReadsLast s tr t reads before k next n

-- jobs along a chain, a number for each place: each is the first to know of the one before, and the last has ended
pub record GoesForward (s : SystemLists) (tr : TraceLists) (t : ℕ) (reads : Reads) (tasks : List TaskId) (jobs : ℕ → ℕ) (ended : ℕ) : Type 0 where
  pub steps : (k : ℕ) → k + 1 < length tasks → IsFirstToKnow s tr t reads (task_in tasks k) (jobs k) (task_in tasks (k + 1)) (jobs (k + 1))
  pub last : HasEnded s tr t (last_in tasks).0 (jobs (length tasks - 1)) ended

-- each has the data of the one before
pub record GoesBackward (s : SystemLists) (tr : TraceLists) (t : ℕ) (reads : Reads) (tasks : List TaskId) (jobs : ℕ → ℕ) (ended : ℕ) : Type 0 where
  pub steps : (k : ℕ) → k + 1 < length tasks → HasDataOf s tr t reads (task_in tasks k) (jobs k) (task_in tasks (k + 1)) (jobs (k + 1))
  pub last : HasEnded s tr t (last_in tasks).0 (jobs (length tasks - 1)) ended

-- a stream of a task has a job that ended before one time, and one that arrives at another or later
pub record RunsOn (s : SystemLists) (tr : TraceLists) (t i q start until : ℕ) : Type 0 where
  pub early : ℕ
  pub early_own : stream_of s tr t i early ≡ q
  pub ended : ℕ
  pub has : HasEnded s tr t i early ended
  pub before : ended < start
  pub late : ℕ
  pub late_own : stream_of s tr t i late ≡ q
  pub there : HasJob s tr t i late
  pub after : until ≤ arrival_of s tr t i late

-- each of its streams has
abbrev pub IsRunning : SystemLists → TraceLists → ℕ → ℕ → ℕ → ℕ → Type 0
IsRunning s tr t i start until = (q : ℕ) → q < length (streams_of s i) → RunsOn s tr t i q start until

-- there is a job of the first task that is the first to read at a time or later, and from it jobs along the chain, of which the last has
-- ended by another time
pub record IsAnswered (s : SystemLists) (tr : TraceLists) (t : ℕ) (reads : Reads) (tasks : List TaskId) (time due : ℕ) : Type 0 where
  pub jobs : ℕ → ℕ
  pub ended : ℕ
  pub first : IsFirstToRead s tr t reads (task_in tasks 0).0 (jobs 0) time
  pub follows : FollowsOn s tr t (task_in tasks 0).0 (jobs 0)
  pub goes : GoesForward s tr t reads tasks jobs ended
  pub by : ended ≤ due

-- there are jobs along the chain, each of which has the data of the one before, up to job n of the last task
pub record IsFed (s : SystemLists) (tr : TraceLists) (t : ℕ) (reads : Reads) (tasks : List TaskId) (n ended : ℕ) : Type 0 where
  pub jobs : ℕ → ℕ
  pub is : jobs (length tasks - 1) ≡ n
  pub goes : GoesBackward s tr t reads tasks jobs ended

-- at a time the register of the last task holds what its job among these wrote, as the last that has ended; and each of them has the data
-- of the one before
pub record IsHeld (s : SystemLists) (tr : TraceLists) (t : ℕ) (reads : Reads) (tasks : List TaskId) (jobs : ℕ → ℕ) (time : ℕ) : Type 0 where
  pub last : IsLastToEnd s tr t (last_in tasks).0 (jobs (length tasks - 1)) time
  pub amidst : IsAmidst s tr t (last_in tasks).0 (jobs (length tasks - 1))
  pub ended : ℕ
  pub goes : GoesBackward s tr t reads tasks jobs ended
