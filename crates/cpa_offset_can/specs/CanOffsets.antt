-- The bound of a frame on a CAN bus where streams share clocks: that of Davis, Burns, Bril and Lukkien (2007) from each start of a
-- busy window (Tindell 1994; Palencia and González Harbour 1998).
use Rattle.std.specs.Prelude.{ℕ, ◌+◌, ◌-◌, ◌*◌, List}
use Rattle.cpa_units.specs.declared.bound.Bound.{Bound}
use Rattle.cpa_units.specs.declared.bound.Bound.TheVariants.{Within}
use Rattle.cpa_units.specs.Bounds.{bound_plus, bound_minus, capped, greatest_of}
use Rattle.cpa_events.specs.Events.{Model, delta_minus, eta_plus}
use Rattle.cpa_window.specs.Windows.{window}
use Rattle.cpa_can.specs.Can.{greatest_in_busy_window}
use Rattle.cpa_phase.specs.declared.placed.Placed.{Placed}
use Rattle.cpa_phase.specs.Phases.{earliest_arrival, arrivals}
use Rattle.cpa_phase.specs.Streams.{phase_at}
use Rattle.cpa_offset.specs.Offsets.{demand, others}

-- what keeps the bus busy: one frame of lower priority, the task's own, of which `frames` come in a window, and those of others
abbrev pub busy_demand : ℕ → ℕ → (ℕ → ℕ) → (ℕ → Bound) → ℕ → Bound
busy_demand worst blocking frames others w = bound_plus (Within (blocking + frames w * worst)) (others w)

-- what comes before the start of the task's q-th frame; what comes within a bit time after it goes first
abbrev pub start_demand : ℕ → ℕ → (ℕ → Bound) → ℕ → ℕ → ℕ → Bound
start_demand worst blocking others bit q = demand worst blocking (λ w. others (w + bit)) (q - 1)

-- the response of the q-th frame, which comes `earliest q` after the start at the earliest: its start, and then its own length;
-- above the limit overload
abbrev pub frame_response : ℕ → ℕ → (ℕ → Bound) → (ℕ → ℕ) → ℕ → ℕ → ℕ → Bound
frame_response worst blocking others earliest bit limit q =
    bound_minus (capped limit (bound_plus (window (start_demand worst blocking others bit q) 0 limit) (Within worst))) (earliest q)

-- the greatest of the frames of a busy window; none where none comes in it
abbrev pub frames_bound : ℕ → ℕ → (ℕ → Bound) → (ℕ → ℕ) → (ℕ → ℕ) → ℕ → ℕ → Bound
frames_bound worst blocking others frames earliest bit limit =
    greatest_in_busy_window (frame_response worst blocking others earliest bit limit) frames (window (busy_demand worst blocking frames others) 1 limit)

-- the bound where the busy window starts at x
abbrev pub can_bound_from : Placed → ℕ → List Placed → (ℕ → Bound) → ℕ → ℕ → ℕ → Bound
can_bound_from own blocking joint rest bit limit x =
    frames_bound own.worst blocking (others joint rest x) (arrivals own.stream (phase_at own x)) (earliest_arrival own.stream (phase_at own x)) bit limit

-- the bound of a frame that comes by one stream on a clock: the greatest, wherever in a cycle the busy window starts
unfoldable pub can_offset_bound : Placed → ℕ → List Placed → (ℕ → Bound) → ℕ → ℕ → ℕ → Bound
can_offset_bound own blocking joint rest bit limit cycle = greatest_of (can_bound_from own blocking joint rest bit limit) cycle

-- and that of one that comes by several streams, or by one without a clock
abbrev pub can_apart_bound : Model → ℕ → ℕ → (ℕ → Bound) → ℕ → ℕ → Bound
can_apart_bound own worst blocking rest bit limit = frames_bound worst blocking rest (eta_plus own) (delta_minus own) bit limit
