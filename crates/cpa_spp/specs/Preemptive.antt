-- The bound of a task under preemptive priority, whose rivals are the tasks of higher priority: that of Richter's thesis
-- (2005) and of Henia et al. (2005), with the blocking of Davis and Bertogna (2012).
use Rattle.std.specs.Prelude.{ℕ, ◌+◌, ◌*◌, List}
use Rattle.cpa_units.specs.declared.bound.Bound.{Bound}
use Rattle.cpa_units.specs.declared.bound.Bound.TheVariants.{Within}
use Rattle.cpa_units.specs.Bounds.{bound_plus}
use Rattle.cpa_events.specs.Events.{Model}
use Rattle.cpa_events.specs.Events.{delta_minus}
use Rattle.cpa_window.specs.declared.rivals.Rival.{Rival}
use Rattle.cpa_window.specs.Rivals.{work_in}
use Rattle.cpa_window.specs.BusyWindow.{busy_window_bound, windows_of}

-- the blocking, the work of q jobs, and of all jobs of higher priority that come in the window
abbrev pub preemptive_demand : ℕ → ℕ → List Rival → ℕ → ℕ → Bound
preemptive_demand worst blocking rivals q w = bound_plus (Within (blocking + q * worst)) (work_in rivals w)

-- the greatest response of the jobs of a busy window
abbrev pub preemptive_bound : Model → ℕ → ℕ → List Rival → ℕ → Bound
preemptive_bound own worst blocking rivals limit = busy_window_bound (windows_of (preemptive_demand worst blocking rivals) limit) (delta_minus own) limit
