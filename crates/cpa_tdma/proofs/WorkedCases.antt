-- Worked tasks under TDMA.
use Rattle.std.proofs.Common.{◌≡◌, ℕ, [], ◌∷◌, map, refl}
use Rattle.cpa_units.specs.declared.bound.Bound.TheVariants.{Within, Overload}
use Rattle.cpa_units.specs.Search.{least_from}
use Rattle.cpa_units.specs.Search.{greatest_to}
use Rattle.cpa_events.specs.Streams.{stream_delta_minus, stream_eta_plus}
use Rattle.cpa_events.specs.Events.{Model, delta_minus, eta_plus}
use Rattle.cpa_window.specs.Windows.{window}
use Rattle.cpa_window.specs.BusyWindow.{jobs_in_busy_window, busy_window_bound}
use Rattle.cpa_tdma.specs.Tdma.{tdma_bound}

every : ℕ → ℕ → Model
every period jitter = record { period = period; jitter = jitter; distance = 0 } ∷ []

-- a slot of 2 ticks in a cycle of 10
tdma_gap-bounds : map (tdma_bound (every 40 0) 3 2 10) (1000000 ∷ 19 ∷ 18 ∷ []) ≡ Within 19 ∷ Within 19 ∷ Overload ∷ []
unfolding every busy_window_bound jobs_in_busy_window window stream_eta_plus eta_plus stream_delta_minus delta_minus least_from greatest_to
tdma_gap-bounds = refl

-- executions of two slots, and of one tick more
slots-bounds : map (λ worst. tdma_bound (every 40 0) worst 2 10 1000) (4 ∷ 5 ∷ []) ≡ Within 20 ∷ Within 29 ∷ []
unfolding every busy_window_bound jobs_in_busy_window window stream_eta_plus eta_plus stream_delta_minus delta_minus least_from greatest_to
slots-bounds = refl

-- the windows are 19, 30, 49 and 60
burst-bound : tdma_bound (every 40 100) 3 2 10 1000 ≡ Within 49
unfolding every busy_window_bound jobs_in_busy_window window stream_eta_plus eta_plus stream_delta_minus delta_minus least_from greatest_to
burst-bound = refl

-- the whole cycle is the task's own
own_cycle-bounds : map (tdma_bound (every 10 25) 2 4 4) (8 ∷ 7 ∷ []) ≡ Within 6 ∷ Overload ∷ []
unfolding every busy_window_bound jobs_in_busy_window window stream_eta_plus eta_plus stream_delta_minus delta_minus least_from greatest_to
own_cycle-bounds = refl
