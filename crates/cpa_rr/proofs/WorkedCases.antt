-- Worked tasks under round robin.
use Rattle.std.proofs.Common.{◌≡◌, ℕ, [], ◌∷◌, map, Option, Some, None, refl}
use Rattle.cpa_units.specs.declared.bound.Bound.{Bound}
use Rattle.cpa_units.specs.declared.bound.Bound.TheVariants.{Within, Overload}
use Rattle.cpa_units.specs.Search.{least_from, greatest_to}
use Rattle.cpa_events.specs.Streams.{stream_delta_minus, stream_eta_plus}
use Rattle.cpa_events.specs.Events.{Model, delta_minus, eta_plus}
use Rattle.cpa_window.specs.declared.rivals.Rival.{Rival}
use Rattle.cpa_window.specs.Windows.{window}
use Rattle.cpa_window.specs.BusyWindow.{jobs_in_busy_window, busy_window_bound}
use Rattle.cpa_rr.specs.RoundRobin.{round_robin_bound}

every : ℕ → ℕ → Model
every period jitter = record { period = period; jitter = jitter; distance = 0 } ∷ []

other : Option Model → ℕ → ℕ → Bound → Rival
other model worst slot bound = record { model = model; worst = worst; slot = slot; bound = bound }

-- each has no more work than one job of the other
round_robin-bounds : round_robin_bound (every 20 0) 3 2 (other (Some (every 20 0)) 1 4 (Within 3) ∷ []) 1000000 ∷ round_robin_bound (every 20 0) 1 4 (other (Some (every 20 0)) 3 2 (Within 4) ∷ []) 1000000 ∷ [] ≡ Within 4 ∷ Within 3 ∷ []
unfolding every other busy_window_bound jobs_in_busy_window window stream_eta_plus eta_plus stream_delta_minus delta_minus least_from greatest_to
round_robin-bounds = refl

-- a rival without a bound, or without a model, has its slots in each round; then executions of two slots, and a tick more
round_robin_share-bounds : map (λ worst. round_robin_bound (every 20 0) worst 2 (other (Some (every 5 0)) 10 4 Overload ∷ []) 1000) (3 ∷ 4 ∷ 5 ∷ []) ≡ Within 11 ∷ Within 12 ∷ Within 17 ∷ []
unfolding every other busy_window_bound jobs_in_busy_window window stream_eta_plus eta_plus stream_delta_minus delta_minus least_from greatest_to
round_robin_share-bounds = refl

no_model-bounds : map (round_robin_bound (every 20 0) 3 2 (other None 10 4 Overload ∷ [])) (11 ∷ 10 ∷ []) ≡ Within 11 ∷ Overload ∷ []
unfolding every other busy_window_bound jobs_in_busy_window window stream_eta_plus eta_plus stream_delta_minus delta_minus least_from greatest_to
no_model-bounds = refl

-- a job that came up to 16 ticks before the window counts; with a bound of 0 it does not
rival_before_window-bounds : map (λ bound. round_robin_bound (every 100 0) 3 1 (other (Some (every 20 0)) 2 10 (Within bound) ∷ []) 1000) (16 ∷ 0 ∷ []) ≡ Within 7 ∷ Within 5 ∷ []
unfolding every other busy_window_bound jobs_in_busy_window window stream_eta_plus eta_plus stream_delta_minus delta_minus least_from greatest_to
rival_before_window-bounds = refl
