-- The bound of a frame on a CAN bus, whose rivals are the tasks of higher priority: that of Davis, Burns, Bril and
-- Lukkien ("Controller Area Network (CAN) schedulability analysis: Refuted, revisited and revised", 2007), with event
-- models in place of periods and jitters.
use Rattle.std.specs.Prelude.{ℕ, ◌+◌, ◌-◌, ◌*◌, List}
use Rattle.cpa_units.specs.declared.bound.Bound.{Bound}
use Rattle.cpa_units.specs.declared.bound.Bound.TheVariants.{Within, Overload}
use Rattle.cpa_units.specs.Bounds.{bound_plus, bound_minus, capped, greatest_of}
use Rattle.cpa_events.specs.Events.{Model}
use Rattle.cpa_events.specs.Events.{delta_minus, eta_plus}
use Rattle.cpa_window.specs.declared.rivals.Rival.{Rival}
use Rattle.cpa_window.specs.Rivals.{work_in}
use Rattle.cpa_window.specs.Windows.{window}

-- what keeps the bus busy: one frame of lower priority, and all of the task's own and of higher priority (Davis et al.)
abbrev pub can_busy_demand : Model → ℕ → ℕ → List Rival → ℕ → Bound
can_busy_demand own worst blocking rivals w = bound_plus (Within (blocking + eta_plus own w * worst)) (work_in rivals w)

-- what comes before the start of the task's q-th frame; what comes within a bit time after it goes first (Davis et al.)
abbrev pub can_demand : ℕ → ℕ → List Rival → ℕ → ℕ → ℕ → Bound
can_demand worst blocking rivals bit q w = bound_plus (Within (blocking + (q - 1) * worst)) (work_in rivals (w + bit))

-- the start of the q-th frame
abbrev pub can_start : ℕ → ℕ → List Rival → ℕ → ℕ → ℕ → Bound
can_start worst blocking rivals bit limit q = window (can_demand worst blocking rivals bit q) 0 limit

-- the response of the q-th frame: its start, and then its own length; above the limit overload
abbrev pub can_response : Model → ℕ → ℕ → List Rival → ℕ → ℕ → ℕ → Bound
can_response own worst blocking rivals bit limit q =
    bound_minus (capped limit (bound_plus (can_start worst blocking rivals bit limit q) (Within worst))) (delta_minus own q)

-- the greatest response in a busy window, which has as many frames as may come in it
abbrev pub greatest_in_busy_window : (ℕ → Bound) → (ℕ → ℕ) → Bound → Bound
greatest_in_busy_window response events (Within busy) = greatest_of response (events busy)
greatest_in_busy_window response events Overload = Overload

-- overload without a busy window, else its greatest response
abbrev pub can_bound : Model → ℕ → ℕ → List Rival → ℕ → ℕ → Bound
can_bound own worst blocking rivals bit limit =
    greatest_in_busy_window (can_response own worst blocking rivals bit limit) (eta_plus own)
    (window (can_busy_demand own worst blocking rivals) 1 limit)
