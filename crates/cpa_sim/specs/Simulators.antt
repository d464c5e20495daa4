-- What the simulator keeps of a run from one moment to the next.
use Rattle.std.specs.Prelude.{ℕ, ◌≡◌, ◌<◌, ◌≤◌, ◌+◌, Bool, true, false, nat_lt, List, length}
use Rattle.cpa_units.specs.declared.limits.TheConstants.{HORIZON, MAX_TRACE_TIME}
use Rattle.cpa_units.specs.declared.places.TaskId.{TaskId}
use Rattle.cpa_model.specs.SystemLists.{SystemLists}
use Rattle.cpa_model.specs.Rules.{IsSystem}
use Rattle.cpa_trace.specs.Trace.{TraceLists}
use Rattle.cpa_sim.specs.declared.dispatches.Dispatch.{Dispatch}
use Rattle.cpa_sim.specs.declared.source_cursors.SourceCursor.{SourceCursor}
use Rattle.cpa_sim.specs.Arrivals.{AreSuccessors, HasSingle}
use Rattle.cpa_sim.specs.JobQueues.{QueueCounts}
use Rattle.cpa_sim.specs.Orders.{AreOrders, ArePlaces, AreReached}
use Rattle.cpa_sim.specs.Outcome.{CanReplay, events_from, is_over}
use Rattle.cpa_sim.specs.Simulation.{IsAt, IsNextEvent}
use Rattle.cpa_sim.specs.LastServed.{RanWithin}

-- what is known of a run as far as it was followed, and whether its jobs are kept
pub record SimulatorLists : Type 0 where
  pub by_source : List (List TaskId)
  pub by_task : List (List TaskId)
  pub single : Bool
  pub orders : List (List TaskId)
  pub places : List ℕ
  pub keeps : Bool
  pub queues : List QueueCounts
  pub dispatches : List Dispatch
  pub cursors : List SourceCursor
  pub time : ℕ
  pub next_event : ℕ
  pub quiet : ℕ

-- it is the run of a system under a trace, up to its time, before which the run isn't over
pub record IsSimulator (s : SystemLists) (tr : TraceLists) (p : SimulatorLists) : Type 0 where
  pub rules : IsSystem s
  pub can : CanReplay s tr
  pub successors : AreSuccessors s (length s.tasks) p.by_source p.by_task
  pub orders : AreOrders s p.orders
  pub places : ArePlaces s p.orders p.places
  pub single : p.single ≡ true → HasSingle s
  pub at : IsAt s tr p.time p.keeps p.queues p.dispatches p.cursors
  pub reached : AreReached s p.orders p.queues p.dispatches
  pub coming : IsNextEvent s tr p.time p.next_event p.cursors
  pub ran : RanWithin p.queues p.dispatches
  pub events : (u : ℕ) → events_from tr u ≡ nat_lt u p.quiet
  pub last : p.quiet ≤ MAX_TRACE_TIME + 1
  pub before : (u : ℕ) → u < p.time → is_over s tr u ≡ false
  pub within : p.time ≤ HORIZON
