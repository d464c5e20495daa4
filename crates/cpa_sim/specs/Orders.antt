-- The tasks of each resource by urgency.
use Rattle.std.specs.Prelude.{ℕ, ◌≡◌, ◌<◌, ◌≤◌, List, length, slice_index}
use Rattle.cpa_units.specs.declared.places.TaskId.{TaskId}
use Rattle.cpa_model.specs.SystemLists.{SystemLists, places_of, task_at}
use Rattle.cpa_sched.specs.Urgency.{IsByUrgency}
use Rattle.cpa_sched.specs.WaitingRanges.{CameSince, HasWaitingRange}
use Rattle.cpa_sched.specs.declared.orders.WaitingRange.{WaitingRange}
use Rattle.cpa_sim.specs.Arrivals.{listed}
use Rattle.cpa_sim.specs.declared.dispatches.Dispatch.{Dispatch}
use Rattle.cpa_sim.specs.JobQueues.{QueueCounts}
use Rattle.cpa_sim.specs.Simulation.{dispatch_at, waiting, arrived}

-- a list for each resource
pub record AreOrders (s : SystemLists) (orders : List (List TaskId)) : Type 0 where
  pub count : length orders ≡ length s.resources
  pub by_urgency : (r : ℕ) → r < length s.resources → IsByUrgency s r (places_of (listed orders r))

-- the first place of a list at which the task at another place stands
pub record IsPlace (js : List ℕ) (place p : ℕ) : Type 0 where
  pub early : place ≤ p
  pub same : slice_index js place ≡ slice_index js p

-- where each task stands in the list of its resource
abbrev pub ArePlaces : SystemLists → List (List TaskId) → List ℕ → Type 0
ArePlaces s orders places =
    (i p : ℕ) → i < length s.tasks → p < length (places_of (listed orders (task_at s i).res.0)) → slice_index (places_of (listed orders (task_at s i).res.0)) p ≡ i
    → IsPlace (places_of (listed orders (task_at s i).res.0)) (slice_index places i) p

-- of a resource it is known between which places those of its tasks stand that wait, and since when their jobs came
pub record IsReached (s : SystemLists) (r : ℕ) (js : List ℕ) (queues : List QueueCounts) (waiters : WaitingRange) : Type 0 where
  pub range : HasWaitingRange js (waiting queues) waiters
  pub since : CameSince s r (waiting queues) (arrived queues) waiters.since

abbrev pub AreReached : SystemLists → List (List TaskId) → List QueueCounts → List Dispatch → Type 0
AreReached s orders queues dispatches = (r : ℕ) → r < length s.resources → IsReached s r (places_of (listed orders r)) queues (dispatch_at dispatches r).waiters
