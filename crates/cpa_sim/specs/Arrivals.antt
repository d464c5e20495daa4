-- The jobs that come at one time, and which tasks follow each source and each task.
use Rattle.std.specs.Prelude.{ℕ, ◌≡◌, ◌<◌, ◌≤◌, ◌-◌, ◌++◌, ◌==◌, ◌&&◌, nat_lt, nat_le, Bool, true, if◌then◌else◌, List, [], ◌∷◌, filter, length, Option, Some, None, slice_index, slice_index_or, slice_set, ◌⊎◌}
use Rattle.std.specs.List.{list_any, range_with_len}
use Rattle.cpa_units.specs.declared.places.TaskId.{TaskId}
use Rattle.cpa_model.specs.declared.entries.Activator.{Activator}
use Rattle.cpa_model.specs.declared.entries.Activator.TheVariants.{Source, Task}
use Rattle.cpa_model.specs.SystemLists.{SystemLists, places_of, task_at, is_fed_by, is_activated_by}
use Rattle.cpa_sched.specs.Steps.{kind_of}
use Rattle.cpa_sched.specs.declared.orders.WaitingRange.{WaitingRange}
use Rattle.cpa_sim.specs.declared.dispatches.Dispatch.{Dispatch}
use Rattle.cpa_sim.specs.declared.jobs.Cause.{Cause}
use Rattle.cpa_sim.specs.JobQueues.{QueueCounts, with_arrivals}
use Rattle.cpa_sim.specs.Run.{by_task}
use Rattle.cpa_sim.specs.Simulation.{queue_at, dispatch_at, ends_of, IsUnchanged}

-- one of some lists of tasks
abbrev pub listed : List (List TaskId) → ℕ → List TaskId
listed lists k = slice_index_or lists k []

-- a task more in one of them
abbrev pub with_task : List (List TaskId) → ℕ → TaskId → List (List TaskId)
with_task lists k task = slice_set lists k (listed lists k ++ task ∷ [])

-- whether an activator has one of so many lists for sources and for tasks
abbrev pub HasList : Activator → ℕ → ℕ → Type 0
HasList (Source k) sources tasks = k.0 < sources
HasList (Task j) sources tasks = j.0 < tasks

-- a task more among those that follow an activator, in the lists for sources and for tasks
abbrev pub with_fed : Activator → TaskId → List (List TaskId) → List (List TaskId)
with_fed (Source k) task lists = with_task lists k.0 task
with_fed (Task j) task lists = lists

abbrev pub with_activated : Activator → TaskId → List (List TaskId) → List (List TaskId)
with_activated (Source k) task lists = lists
with_activated (Task j) task lists = with_task lists j.0 task

-- lists of those of the first so many tasks that have each source and each task among their activators
pub record AreSuccessors (s : SystemLists) (tasks : ℕ) (by_source by_task : List (List TaskId)) : Type 0 where
  pub count_sources : length by_source ≡ length s.sources
  pub count_tasks : length by_task ≡ length s.tasks
  pub fed : (k : ℕ) → k < length s.sources → places_of (listed by_source k) ≡ filter (is_fed_by s k) (range_with_len 0 tasks)
  pub activated : (j : ℕ) → j < length s.tasks → places_of (listed by_task j) ≡ filter (is_activated_by s j) (range_with_len 0 tasks)

-- no task has more than one activator
abbrev pub HasSingle : SystemLists → Type 0
HasSingle s = (i : ℕ) → i < length s.tasks → length (task_at s i).after ≤ 1

-- whether a task is in a list
abbrev pub is_among : List TaskId → ℕ → Bool
is_among tasks i = list_any (λ (t : TaskId). t.0 == i) tasks

-- a list of tasks of a system, each once, in their order
abbrev pub IsListOf : SystemLists → List TaskId → Type 0
IsListOf s tasks = places_of tasks ≡ filter (is_among tasks) (range_with_len 0 (length s.tasks))

-- a place that is looked at where those that wait are looked for, of a task of which a job arrives now
pub record IsWithin (waiters : WaitingRange) (place now : ℕ) : Type 0 where
  pub first : waiters.first ≤ place
  pub last : place ≤ waiters.last
  pub since : waiters.since ≤ now

-- each task has got the jobs with these causes, and where it has got one, nothing is foreseen of its resource any more, and its place in the
-- resource's list is looked at
pub record AreGiven (s : SystemLists) (places : List ℕ) (now : ℕ) (causes : ℕ → List Cause) (queues : List QueueCounts) (dispatches : List Dispatch) (next_queues : List QueueCounts) (next_dispatches : List Dispatch) : Type 0 where
  pub count_queues : length next_queues ≡ length s.tasks
  pub count_dispatches : length next_dispatches ≡ length s.resources
  pub arrived : (i : ℕ) → i < length s.tasks → queue_at next_queues i ≡ with_arrivals now (causes i) (queue_at queues i)
  pub unchanged : (r : ℕ) → r < length s.resources → IsUnchanged (kind_of s r) (dispatch_at dispatches r) (dispatch_at next_dispatches r)
  pub asked : (i : ℕ) → i < length s.tasks → (dispatch_at next_dispatches (task_at s i).res.0).gone < (dispatch_at next_dispatches (task_at s i).res.0).ticks → causes i ≡ []
  pub within : (i : ℕ) → i < length s.tasks → (causes i ≡ []) ⊎ IsWithin (dispatch_at next_dispatches (task_at s i).res.0).waiters (slice_index places i) now

-- which jobs of a task end now: the last that is complete, if one does
abbrev pub ended_of : SystemLists → List QueueCounts → List Dispatch → ℕ → List ℕ
ended_of s queues dispatches j = range_with_len ((queue_at queues j).done - 1) (ends_of s dispatches j)

-- what the last complete job of task j starts at task i
abbrev pub by_last : SystemLists → List QueueCounts → ℕ → ℕ → List Cause
by_last s queues j i = by_task s (λ k. range_with_len ((queue_at queues k).done - 1) 1) j i

-- whether a task stands before another one, if there is one
abbrev pub comes_before : ℕ → Option ℕ → Bool
comes_before i None = true
comes_before i (Some j) = nat_lt i j

-- the first of two tasks, of which the second counts from a place on, where there are any
abbrev pub first_of : Option ℕ → ℕ → Option ℕ → Option ℕ
first_of next from None = next
first_of next from (Some j) = if nat_le from j && comes_before j next then Some j else next

-- the first task from a place on of which a job ends now
pub record IsNextEnd (s : SystemLists) (dispatches : List Dispatch) (from : ℕ) (next : Option ℕ) : Type 0 where
  pub from_on : (j : ℕ) → next ≡ Some j → from ≤ j
  pub there : (j : ℕ) → next ≡ Some j → j < length s.tasks
  pub ends : (j : ℕ) → next ≡ Some j → ends_of s dispatches j ≡ 1
  pub none : (i : ℕ) → from ≤ i → i < length s.tasks → ((j : ℕ) → next ≡ Some j → i < j) → ends_of s dispatches i ≡ 0
