-- Which job the simulator gave the ticks that it passed last.
use Rattle.std.specs.Prelude.{ℕ, ◌≡◌, ◌<◌, ◌-◌, Bool, if◌then◌else◌, List, length, Option, Some, option_map}
use Rattle.cpa_sim.specs.declared.dispatches.Dispatch.{Dispatch}
use Rattle.cpa_sim.specs.declared.jobs.Served.{Served}
use Rattle.cpa_sim.specs.JobQueues.{QueueCounts}
use Rattle.cpa_sim.specs.Simulation.{queue_at, dispatch_at, runner}
use Rattle.cpa_sim.specs.Served.{numbered}

-- the number of the job of a task that ran last: the earliest pending one, or the one before it if that ends now
abbrev pub last_of : QueueCounts → Bool → ℕ
last_of queue ends = queue.done - (if ends then 1 else 0)

-- the job that the simulator gave the ticks that it passed last
abbrev pub ran_by : List QueueCounts → List Dispatch → ℕ → Option Served
ran_by queues dispatches r = option_map (numbered (λ i. last_of (queue_at queues i) (dispatch_at dispatches r).ends)) (runner (dispatch_at dispatches r))

-- the tasks that run are in the list
abbrev pub RanWithin : List QueueCounts → List Dispatch → Type 0
RanWithin queues dispatches = (r i : ℕ) → r < length dispatches → runner (dispatch_at dispatches r) ≡ Some i → i < length queues
