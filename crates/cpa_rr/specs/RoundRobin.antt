-- The bound of a task that takes turns with all other tasks of its resource, its rivals: that of Richter's thesis (2005)
-- and of Henia et al. (2005), but for the work that came before the window.
use Rattle.std.specs.Prelude.{ℕ, ◌+◌, ◌*◌, Option, Some, None, List}
use Rattle.std.specs.Int.{div_ceil}
use Rattle.cpa_units.specs.declared.bound.Bound.{Bound}
use Rattle.cpa_units.specs.declared.bound.Bound.TheVariants.{Within, Overload}
use Rattle.cpa_units.specs.Bounds.{bound_plus, bound_times, bound_min, sum_bounds}
use Rattle.cpa_events.specs.Events.{Model}
use Rattle.cpa_events.specs.Events.{delta_minus, eta_plus}
use Rattle.cpa_window.specs.declared.rivals.Rival.{Rival}
use Rattle.cpa_window.specs.BusyWindow.{busy_window_bound, windows_of}

-- the most events of a rival whose work may fall into a window: those that come in it, or before it by no more than the
-- rival's bound; this widening is the project's own. Above every number where the bound or the input isn't known
abbrev pub events_with_backlog : Option Model → Bound → ℕ → Bound
events_with_backlog (Some m) (Within bound) window = Within (eta_plus m (window + bound))
events_with_backlog (Some m) Overload window = Overload
events_with_backlog None bound window = Overload

-- the work that a rival does in so many rounds: no more than its slots, and no more than it has
abbrev pub work_in_rounds : ℕ → Rival → ℕ → Bound
work_in_rounds rounds r window =
    bound_min (Within (rounds * r.slot)) (bound_times (events_with_backlog r.model r.bound window) r.worst)

-- the work of q jobs, and of the rivals in the rounds that it takes
abbrev pub round_robin_demand : ℕ → ℕ → List Rival → ℕ → ℕ → Bound
round_robin_demand worst slot rivals q w =
    bound_plus (Within (q * worst)) (sum_bounds (λ r. work_in_rounds (div_ceil (q * worst) slot) r w) rivals)

-- the greatest response of the jobs of a busy window
abbrev pub round_robin_bound : Model → ℕ → ℕ → List Rival → ℕ → Bound
round_robin_bound own worst slot rivals limit = busy_window_bound (windows_of (round_robin_demand worst slot rivals) limit) (delta_minus own) limit
