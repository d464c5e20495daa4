-- Worked tasks with offsets.
use Rattle.std.proofs.Common.{◌≡◌, ℕ, [], ◌∷◌, map, Some, refl}
use Rattle.cpa_units.specs.declared.bound.Bound.{Bound}
use Rattle.cpa_units.specs.declared.bound.Bound.TheVariants.{Within, Overload}
use Rattle.cpa_units.specs.Search.{least_from, greatest_to}
use Rattle.cpa_events.specs.Streams.{stream_delta_minus, stream_eta_plus}
use Rattle.cpa_events.specs.Events.{delta_minus, eta_plus}
use Rattle.cpa_window.specs.Windows.{window}
use Rattle.cpa_window.specs.BusyWindow.{jobs_in_busy_window, busy_window_bound}
use Rattle.cpa_spp.specs.Preemptive.{preemptive_bound}
use Rattle.cpa_phase.specs.declared.placed.Placed.{Placed}
use Rattle.cpa_phase.specs.Phases.{earliest_arrival, arrivals}
use Rattle.cpa_phase.specs.Clocks.{most_of, clock_work}
use Rattle.cpa_offset.specs.Offsets.{window_bound, offset_bound}

at : ℕ → ℕ → ℕ → ℕ → Placed
at period jitter offset worst = record { stream = record { period = period; jitter = jitter; distance = 0 }; offset = offset; worst = worst }

nobody : ℕ → Bound
nobody w = Within 0

-- a task of 3 ticks below one of 4 ticks, each 10, one clock: it comes 5, 4, 3, 2 and 1 after the other, and at once
offsets-bounds : map (λ offset. offset_bound (at 10 0 offset 3) 0 (at 10 0 0 4 ∷ []) nobody 1000 10) (5 ∷ 4 ∷ 3 ∷ 2 ∷ 1 ∷ 0 ∷ []) ≡ map Within (3 ∷ 3 ∷ 4 ∷ 5 ∷ 6 ∷ 7 ∷ [])
unfolding at nobody offset_bound window_bound busy_window_bound jobs_in_busy_window window earliest_arrival arrivals least_from greatest_to
offsets-bounds = refl

-- without clocks, and on two of them, it is 7
plain-bound : preemptive_bound (record { period = 10; jitter = 0; distance = 0 } ∷ []) 3 0 (record { model = Some (record { period = 10; jitter = 0; distance = 0 } ∷ []); worst = 4; slot = 0; bound = Overload } ∷ []) 1000 ≡ Within 7
unfolding busy_window_bound jobs_in_busy_window window stream_eta_plus eta_plus stream_delta_minus delta_minus least_from greatest_to
plain-bound = refl

two_clocks-bound : offset_bound (at 10 0 5 3) 0 [] (λ w. Within (clock_work (at 10 0 0 4 ∷ []) 10 w)) 1000 10 ≡ Within 7
unfolding at most_of offset_bound window_bound busy_window_bound jobs_in_busy_window window earliest_arrival arrivals least_from greatest_to
two_clocks-bound = refl

-- a task of 4 ticks below one of 3 ticks, 5 apart. Where the higher one may be late, it keeps the lower one waiting, and once more
-- if that isn't done by its next event
jitter-bounds : map (λ jitter. offset_bound (at 10 0 5 4) 0 (at 10 jitter 0 3 ∷ []) nobody 100 10) (0 ∷ 2 ∷ 3 ∷ 5 ∷ []) ≡ map Within (4 ∷ 4 ∷ 5 ∷ 10 ∷ [])
unfolding at nobody offset_bound window_bound busy_window_bound jobs_in_busy_window window earliest_arrival arrivals least_from greatest_to
jitter-bounds = refl

-- the higher one comes twice in each cycle of 20 ticks, and meets every job of the lower one, but at offset 4
two_periods-bounds : map (λ offset. offset_bound (at 20 0 offset 4) 0 (at 10 0 0 3 ∷ []) nobody 100 20) (0 ∷ 4 ∷ 8 ∷ 12 ∷ []) ≡ map Within (7 ∷ 4 ∷ 7 ∷ 5 ∷ [])
unfolding at nobody offset_bound window_bound busy_window_bound jobs_in_busy_window window earliest_arrival arrivals least_from greatest_to
two_periods-bounds = refl
