-- Worked frames on a CAN bus.
use Rattle.std.proofs.Common.{◌≡◌, ℕ, [], ◌∷◌, map, Some, refl}
use Rattle.cpa_units.specs.declared.bound.Bound.TheVariants.{Within, Overload}
use Rattle.cpa_units.specs.Search.{least_from, greatest_to}
use Rattle.cpa_events.specs.Streams.{stream_delta_minus, stream_eta_plus}
use Rattle.cpa_events.specs.Events.{Model, delta_minus, eta_plus}
use Rattle.cpa_window.specs.declared.rivals.Rival.{Rival}
use Rattle.cpa_window.specs.Windows.{window}
use Rattle.cpa_can.specs.Can.{can_busy_demand, can_start, can_response, can_bound}

every : ℕ → ℕ → Model
every period jitter = record { period = period; jitter = jitter; distance = 0 } ∷ []

higher : ℕ → ℕ → Rival
higher period worst = record { model = Some (every period 0); worst = worst; slot = 0; bound = Overload }

-- the example of Davis et al. with a tick of 10 µs: of the third frame the second instance takes longest
davis_bus-busy : window (can_busy_demand (every 350 0) 100 0 (higher 250 100 ∷ higher 350 100 ∷ [])) 1 1000000 ≡ Within 700
unfolding every higher window stream_eta_plus eta_plus stream_delta_minus delta_minus least_from greatest_to
davis_bus-busy = refl

davis_bus-responses : map (can_response (every 350 0) 100 0 (higher 250 100 ∷ higher 350 100 ∷ []) 1 1000000) (1 ∷ 2 ∷ []) ≡ Within 300 ∷ Within 350 ∷ []
unfolding every higher window stream_eta_plus eta_plus stream_delta_minus delta_minus least_from greatest_to
davis_bus-responses = refl

davis_bus-bounds : can_bound (every 250 0) 100 100 [] 1 1000000 ∷ can_bound (every 350 0) 100 100 (higher 250 100 ∷ []) 1 1000000 ∷ can_bound (every 350 0) 100 0 (higher 250 100 ∷ higher 350 100 ∷ []) 1 1000000 ∷ [] ≡ Within 200 ∷ Within 300 ∷ Within 350 ∷ []
unfolding every higher window stream_eta_plus eta_plus stream_delta_minus delta_minus least_from greatest_to
davis_bus-bounds = refl

davis_bus-limits : map (can_bound (every 350 0) 100 0 (higher 250 100 ∷ higher 350 100 ∷ []) 1) (700 ∷ 699 ∷ []) ≡ Within 350 ∷ Overload ∷ []
unfolding every higher window stream_eta_plus eta_plus stream_delta_minus delta_minus least_from greatest_to
davis_bus-limits = refl

-- frames of 8 bytes with a short identifier, and of no bytes with a long one, at a bit time of 2
frame_lengths-bounds : can_bound (every 10000 0) 270 160 [] 2 1000000 ∷ can_bound (every 10000 0) 160 0 (higher 10000 270 ∷ []) 2 1000000 ∷ [] ≡ Within 430 ∷ Within 430 ∷ []
unfolding every higher window stream_eta_plus eta_plus stream_delta_minus delta_minus least_from greatest_to
frame_lengths-bounds = refl

-- five frames of a busy window of 205
several_frames-starts : map (can_start 20 30 (higher 70 25 ∷ []) 1 1000) (1 ∷ 2 ∷ 3 ∷ 4 ∷ 5 ∷ []) ≡ map Within (55 ∷ 100 ∷ 120 ∷ 165 ∷ 185 ∷ [])
unfolding every higher window stream_eta_plus eta_plus stream_delta_minus delta_minus least_from greatest_to
several_frames-starts = refl

several_frames-bound : can_bound (every 100 250) 20 30 (higher 70 25 ∷ []) 1 1000 ≡ Within 140
unfolding every higher window stream_eta_plus eta_plus stream_delta_minus delta_minus least_from greatest_to
several_frames-bound = refl

-- a busy window of 80, whose last frame ends at 91
end_past_window-bounds : map (can_bound (every 20 30) 3 0 (higher 50 9 ∷ higher 20 11 ∷ []) 5) (91 ∷ 90 ∷ []) ≡ Within 61 ∷ Overload ∷ []
unfolding every higher window stream_eta_plus eta_plus stream_delta_minus delta_minus least_from greatest_to
end_past_window-bounds = refl
