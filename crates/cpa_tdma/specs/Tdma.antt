-- The bound of a task with a slot of its own in a cycle: that of Richter's thesis (2005) and of Henia et al. (2005).
use Rattle.std.specs.Prelude.{ℕ, ◌+◌, ◌-◌, ◌*◌}
use Rattle.std.specs.Int.{div_ceil}
use Rattle.cpa_units.specs.declared.bound.Bound.{Bound}
use Rattle.cpa_units.specs.declared.bound.Bound.TheVariants.{Within}
use Rattle.cpa_events.specs.Events.{Model}
use Rattle.cpa_events.specs.Events.{delta_minus}
use Rattle.cpa_window.specs.BusyWindow.{busy_window_bound, windows_of}

-- the work of q jobs, and what is left beside the slot of each cycle that it takes
abbrev pub tdma_work : ℕ → ℕ → ℕ → ℕ → ℕ
tdma_work worst slot cycle q = q * worst + div_ceil (q * worst) slot * (cycle - slot)

-- it is the same in every window
abbrev pub tdma_demand : ℕ → ℕ → ℕ → ℕ → ℕ → Bound
tdma_demand worst slot cycle q w = Within (tdma_work worst slot cycle q)

-- the greatest response of the jobs of a busy window
abbrev pub tdma_bound : Model → ℕ → ℕ → ℕ → ℕ → Bound
tdma_bound own worst slot cycle limit = busy_window_bound (windows_of (tdma_demand worst slot cycle) limit) (delta_minus own) limit
