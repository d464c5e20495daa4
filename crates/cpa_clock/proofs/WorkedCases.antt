-- Worked bounds by clocks, beside those without.
use Rattle.std.proofs.Common.{◌≡◌, ℕ, [], ◌∷◌, map, Some, None, refl}
use Rattle.cpa_units.specs.declared.bound.Bound.TheVariants.{Within}
use Rattle.cpa_units.specs.Search.{least_from, greatest_to}
use Rattle.cpa_events.specs.Streams.{stream_delta_minus, stream_eta_plus}
use Rattle.cpa_events.specs.Events.{Model, delta_minus, eta_plus}
use Rattle.cpa_window.specs.Windows.{window}
use Rattle.cpa_window.specs.BusyWindow.{jobs_in_busy_window, busy_window_bound}
use Rattle.cpa_phase.specs.Phases.{earliest_arrival, arrivals}
use Rattle.cpa_phase.specs.Clocks.{most_of}
use Rattle.cpa_offset.specs.Offsets.{window_bound, offset_bound}
use Rattle.cpa_offset_can.specs.CanOffsets.{can_offset_bound}
use Rattle.cpa_clock.specs.Anchors.{Anchors}
use Rattle.cpa_clock.specs.Rivals.{ClockedRival}
use Rattle.cpa_clock.specs.Clocked.{clocked_preemptive_bound, clocked_can_bound}

every : ℕ → ℕ → Model
every period jitter = record { period = period; jitter = jitter; distance = 0 } ∷ []

-- the one stream of an input on a clock at an offset
at : ℕ → ℕ → Anchors
at clock offset q = Some (record { clock = clock; offset = offset })

higher : ℕ → ℕ → ℕ → Anchors → ClockedRival
higher period jitter worst anchors = record { model = Some (every period jitter); anchors = anchors; worst = worst }

-- a task of 3 ticks below one of 4 ticks, each 10, one clock: it comes 5, 4, 3, 2 and 1 after the other, and at once
offsets-bounds : map (λ offset. clocked_preemptive_bound (every 10 0) (at 0 offset) 3 0 (higher 10 0 4 (at 0 0) ∷ []) (λ c. 10) 1 1000) (5 ∷ 4 ∷ 3 ∷ 2 ∷ 1 ∷ 0 ∷ []) ≡ map Within (3 ∷ 3 ∷ 4 ∷ 5 ∷ 6 ∷ 7 ∷ [])
unfolding every at higher offset_bound window_bound most_of arrivals earliest_arrival busy_window_bound jobs_in_busy_window window stream_eta_plus eta_plus stream_delta_minus delta_minus least_from greatest_to
offsets-bounds = refl

-- the other on a clock of its own, or on none: 7; and so where the task is on none
apart-bounds : map (λ anchors. clocked_preemptive_bound (every 10 0) (at 0 5) 3 0 (higher 10 0 4 anchors ∷ []) (λ c. 10) 2 1000) (at 1 0 ∷ (λ q. None) ∷ []) ≡ map Within (7 ∷ 7 ∷ [])
unfolding every at higher offset_bound window_bound most_of arrivals earliest_arrival busy_window_bound jobs_in_busy_window window stream_eta_plus eta_plus stream_delta_minus delta_minus least_from greatest_to
apart-bounds = refl

off-bound : clocked_preemptive_bound (every 10 0) (λ q. None) 3 0 (higher 10 0 4 (at 0 0) ∷ []) (λ c. 10) 1 1000 ≡ Within 7
unfolding every at higher offset_bound window_bound most_of arrivals earliest_arrival busy_window_bound jobs_in_busy_window window stream_eta_plus eta_plus stream_delta_minus delta_minus least_from greatest_to
off-bound = refl

-- two on the other clock that never come together: one of them alone meets a task of 2 ticks, and both one of 3
two-bounds : map (λ worst. clocked_preemptive_bound (every 10 0) (at 0 0) worst 0 (higher 10 0 2 (at 1 0) ∷ higher 10 0 3 (at 1 5) ∷ []) (λ c. 10) 2 1000) (2 ∷ 3 ∷ []) ≡ map Within (5 ∷ 8 ∷ [])
unfolding every at higher offset_bound window_bound most_of arrivals earliest_arrival busy_window_bound jobs_in_busy_window window stream_eta_plus eta_plus stream_delta_minus delta_minus least_from greatest_to
two-bounds = refl

-- frames on a CAN bus
can-bounds : map (λ offset. clocked_can_bound (every 10 0) (at 0 offset) 3 0 (higher 10 0 4 (at 0 0) ∷ []) (λ c. 10) 1 1 1000) (5 ∷ 4 ∷ 3 ∷ 0 ∷ []) ≡ map Within (3 ∷ 3 ∷ 4 ∷ 7 ∷ [])
unfolding every at higher can_offset_bound most_of arrivals earliest_arrival window stream_eta_plus eta_plus stream_delta_minus delta_minus least_from greatest_to
can-bounds = refl
