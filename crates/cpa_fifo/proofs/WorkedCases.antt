-- Worked queues.
use Rattle.std.proofs.Common.{◌≡◌, ℕ, [], ◌∷◌, map, Some, refl}
use Rattle.cpa_units.specs.declared.bound.Bound.TheVariants.{Within, Overload}
use Rattle.cpa_units.specs.Search.{least_from, greatest_to}
use Rattle.cpa_events.specs.Streams.{stream_delta_minus, stream_eta_plus}
use Rattle.cpa_events.specs.Events.{Model, delta_minus, eta_plus}
use Rattle.cpa_window.specs.declared.rivals.Rival.{Rival}
use Rattle.cpa_window.specs.Windows.{window}
use Rattle.cpa_fifo.specs.Fifo.{fifo_demand, fifo_response, fifo_bound}

every : ℕ → ℕ → ℕ → Model
every period jitter distance = record { period = period; jitter = jitter; distance = distance } ∷ []

other : ℕ → ℕ → ℕ → ℕ → Rival
other period jitter distance worst = record { model = Some (every period jitter distance); worst = worst; slot = 0; bound = Overload }

-- two jobs at once
at_once-bounds : map (fifo_bound (every 10 0 0) 3 (other 20 0 0 4 ∷ [])) (1000 ∷ 7 ∷ 6 ∷ []) ≡ Within 7 ∷ Within 7 ∷ Overload ∷ []
unfolding every other window stream_eta_plus eta_plus stream_delta_minus delta_minus least_from greatest_to
at_once-bounds = refl

-- the other task has the same bound
other_one-bound : fifo_bound (every 20 0 0) 4 (other 10 0 0 3 ∷ []) 1000 ≡ Within 7
unfolding every other window stream_eta_plus eta_plus stream_delta_minus delta_minus least_from greatest_to
other_one-bound = refl

-- five jobs of 3 ticks in a row, of which each comes 2 ticks after the one before: the last waits longest
in_a_row-responses : map (fifo_response (every 100 400 2) 3 []) (1 ∷ 3 ∷ 5 ∷ 7 ∷ 9 ∷ 15 ∷ []) ≡ map Within (3 ∷ 4 ∷ 5 ∷ 6 ∷ 7 ∷ 1 ∷ [])
unfolding every window stream_eta_plus eta_plus stream_delta_minus delta_minus least_from greatest_to
in_a_row-responses = refl

in_a_row-bounds : map (fifo_bound (every 100 400 2) 3 []) (1000 ∷ 15 ∷ 14 ∷ []) ≡ Within 7 ∷ Within 7 ∷ Overload ∷ []
unfolding every window stream_eta_plus eta_plus stream_delta_minus delta_minus least_from greatest_to
in_a_row-bounds = refl

-- a busy window of 45, in whose thirty-first tick alone a job can wait for so long
late-demands : map (fifo_demand (every 8 18 5) 5 (other 9 0 3 1 ∷ [])) (1 ∷ 30 ∷ 31 ∷ 45 ∷ []) ≡ map Within (6 ∷ 34 ∷ 39 ∷ 45 ∷ [])
unfolding every other window stream_eta_plus eta_plus stream_delta_minus delta_minus least_from greatest_to
late-demands = refl

late-bounds : map (fifo_bound (every 8 18 5) 5 (other 9 0 3 1 ∷ [])) (1000 ∷ 45 ∷ 44 ∷ []) ≡ Within 9 ∷ Within 9 ∷ Overload ∷ []
unfolding every other window stream_eta_plus eta_plus stream_delta_minus delta_minus least_from greatest_to
late-bounds = refl
