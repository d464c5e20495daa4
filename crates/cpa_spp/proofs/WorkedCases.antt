-- Worked tasks under preemptive priority.
use Rattle.std.proofs.Common.{◌≡◌, ℕ, [], ◌∷◌, map, Some, None, refl}
use Rattle.cpa_units.specs.declared.bound.Bound.TheVariants.{Within, Overload}
use Rattle.cpa_units.specs.Search.{least_from, greatest_to}
use Rattle.cpa_events.specs.Streams.{stream_delta_minus, stream_eta_plus}
use Rattle.cpa_events.specs.Events.{Model, delta_minus, eta_plus}
use Rattle.cpa_window.specs.declared.rivals.Rival.{Rival}
use Rattle.cpa_window.specs.Windows.{window}
use Rattle.cpa_window.specs.BusyWindow.{jobs_in_busy_window, busy_window_bound, windows_of}
use Rattle.cpa_spp.specs.Preemptive.{preemptive_demand, preemptive_bound}

every : ℕ → ℕ → Model
every period jitter = record { period = period; jitter = jitter; distance = 0 } ∷ []

higher : ℕ → ℕ → Rival
higher period worst = record { model = Some (every period 0); worst = worst; slot = 0; bound = Overload }

-- seven jobs of 62 ticks below one of 26 ticks: the fifth has the greatest response
long_window-windows : map (windows_of (preemptive_demand 62 0 (higher 70 26 ∷ [])) 1000000) (1 ∷ 2 ∷ 3 ∷ 4 ∷ 5 ∷ 6 ∷ 7 ∷ []) ≡ map Within (114 ∷ 202 ∷ 316 ∷ 404 ∷ 518 ∷ 606 ∷ 694 ∷ [])
unfolding every higher window stream_eta_plus eta_plus stream_delta_minus delta_minus least_from greatest_to
long_window-windows = refl

long_window-bounds : map (preemptive_bound (every 100 0) 62 0 (higher 70 26 ∷ [])) (1000000 ∷ 694 ∷ 693 ∷ []) ≡ Within 118 ∷ Within 118 ∷ Overload ∷ []
unfolding every higher busy_window_bound jobs_in_busy_window window stream_eta_plus eta_plus stream_delta_minus delta_minus least_from greatest_to
long_window-bounds = refl

-- three events may come at one instant: the windows are 2, 4, 6 and 8
burst-bounds : map (preemptive_bound (every 10 25) 2 0 []) (1000000 ∷ 8 ∷ 7 ∷ []) ≡ Within 6 ∷ Within 6 ∷ Overload ∷ []
unfolding every busy_window_bound jobs_in_busy_window window stream_eta_plus eta_plus stream_delta_minus delta_minus least_from greatest_to
burst-bounds = refl

-- the window ends at the next arrival of the rival, which doesn't count, and at the limit
limit_edge-bounds : map (preemptive_bound (every 20 0) 7 0 (higher 10 3 ∷ [])) (10 ∷ 9 ∷ []) ≡ Within 10 ∷ Overload ∷ []
unfolding every higher busy_window_bound jobs_in_busy_window window stream_eta_plus eta_plus stream_delta_minus delta_minus least_from greatest_to
limit_edge-bounds = refl

-- a rival without a bound on its input leaves none
unbounded_rival-bound : preemptive_bound (every 20 0) 7 0 (record { model = None; worst = 1; slot = 0; bound = Overload } ∷ []) 50 ≡ Overload
unfolding every busy_window_bound jobs_in_busy_window window stream_eta_plus eta_plus stream_delta_minus delta_minus least_from greatest_to
unbounded_rival-bound = refl

-- a control task above a logger that takes up to 20 ticks: bounds with a region of 1, 5 and 20 ticks
region-bounds : map (λ blocking. preemptive_bound (every 10 0) 2 blocking [] 1000000) (0 ∷ 4 ∷ 19 ∷ []) ≡ Within 2 ∷ Within 6 ∷ Within 21 ∷ []
unfolding every busy_window_bound jobs_in_busy_window window stream_eta_plus eta_plus stream_delta_minus delta_minus least_from greatest_to
region-bounds = refl
