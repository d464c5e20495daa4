-- The bound of a task under preemptive priority where streams share clocks: the busy window is looked at from each moment of the
-- task's own clock (Tindell 1994; Palencia and González Harbour 1998), over the busy windows of Richter's thesis (2005).
use Rattle.std.specs.Prelude.{ℕ, ◌+◌, ◌*◌, if◌then◌else◌, List}
use Rattle.cpa_units.specs.declared.bound.Bound.{Bound}
use Rattle.cpa_units.specs.declared.bound.Bound.TheVariants.{Within}
use Rattle.cpa_units.specs.Bounds.{fits, bound_plus, greatest_of}
use Rattle.cpa_events.specs.Events.{Model, delta_minus}
use Rattle.cpa_window.specs.declared.rivals.Rival.{Rival}
use Rattle.cpa_window.specs.Rivals.{work_in}
use Rattle.cpa_window.specs.Windows.{window}
use Rattle.cpa_window.specs.BusyWindow.{busy_window_bound, windows_of}
use Rattle.cpa_phase.specs.declared.placed.Placed.{Placed}
use Rattle.cpa_phase.specs.declared.clock.Clock.{Clock}
use Rattle.cpa_phase.specs.Phases.{earliest_arrival}
use Rattle.cpa_phase.specs.Streams.{phase_at, work_from}
use Rattle.cpa_phase.specs.Clocks.{clocks_work}

-- the blocking, the work of q jobs, and what others ask for
abbrev pub demand : ℕ → ℕ → (ℕ → Bound) → ℕ → ℕ → Bound
demand worst blocking others q w = bound_plus (Within (blocking + q * worst)) (others w)

-- what others ask for wherever the window starts: those on other clocks as they ask for most, and those without a clock
abbrev pub elsewhere : List Clock → List Rival → ℕ → Bound
elsewhere clocks free w = bound_plus (Within (clocks_work clocks w)) (work_in free w)

-- what all others ask for in a window that starts at x: those on the task's own clock as they come from x on, and the rest
abbrev pub others : List Placed → (ℕ → Bound) → ℕ → ℕ → Bound
others joint rest x w = bound_plus (Within (work_from joint x w)) (rest w)

-- the greatest response of the jobs of a busy window, of which q come no earlier than `earliest q` after its start; none where
-- the resource is done with all else before the first
unfoldable pub window_bound : (ℕ → ℕ → Bound) → (ℕ → ℕ) → ℕ → Bound
window_bound demand earliest limit =
    if fits (window (demand 0) 1 limit) (earliest 1) then Within 0 else busy_window_bound (windows_of demand limit) earliest limit

-- the bound where the busy window starts at x
abbrev pub bound_from : Placed → ℕ → List Placed → (ℕ → Bound) → ℕ → ℕ → Bound
bound_from own blocking joint rest limit x =
    window_bound (demand own.worst blocking (others joint rest x)) (earliest_arrival own.stream (phase_at own x)) limit

-- the bound of a task that comes by one stream on a clock: the greatest, wherever in a cycle the busy window starts
unfoldable pub offset_bound : Placed → ℕ → List Placed → (ℕ → Bound) → ℕ → ℕ → Bound
offset_bound own blocking joint rest limit cycle = greatest_of (bound_from own blocking joint rest limit) cycle

-- and that of a task that comes by several streams, or by one without a clock
abbrev pub apart_bound : Model → ℕ → ℕ → (ℕ → Bound) → ℕ → Bound
apart_bound own worst blocking rest limit = busy_window_bound (windows_of (demand worst blocking rest) limit) (delta_minus own) limit
