-- Worked frames with offsets.
use Rattle.std.proofs.Common.{◌≡◌, ℕ, [], ◌∷◌, map, refl}
use Rattle.cpa_units.specs.declared.bound.Bound.{Bound}
use Rattle.cpa_units.specs.declared.bound.Bound.TheVariants.{Within}
use Rattle.cpa_units.specs.Search.{least_from, greatest_to}
use Rattle.cpa_window.specs.Windows.{window}
use Rattle.cpa_phase.specs.declared.placed.Placed.{Placed}
use Rattle.cpa_phase.specs.Phases.{earliest_arrival, arrivals}
use Rattle.cpa_offset_can.specs.CanOffsets.{can_offset_bound}

at : ℕ → ℕ → ℕ → ℕ → Placed
at period jitter offset worst = record { stream = record { period = period; jitter = jitter; distance = 0 }; offset = offset; worst = worst }

nobody : ℕ → Bound
nobody w = Within 0

-- a frame of 3 ticks below one of 4 ticks, each 10, one clock: it comes 5, 4 and 3 after the other, and at once. A bit takes a tick
offsets-bounds : map (λ offset. can_offset_bound (at 10 0 offset 3) 0 (at 10 0 0 4 ∷ []) nobody 1 1000 10) (5 ∷ 4 ∷ 3 ∷ 0 ∷ []) ≡ map Within (3 ∷ 3 ∷ 4 ∷ 7 ∷ [])
unfolding at nobody can_offset_bound window earliest_arrival arrivals least_from greatest_to
offsets-bounds = refl

-- it comes a tick before the other: it has begun by then, unless a frame of lower priority had the bus
blocking-bounds : map (λ blocking. can_offset_bound (at 10 0 9 3) blocking (at 10 0 0 4 ∷ []) nobody 1 1000 10) (0 ∷ 1 ∷ 2 ∷ []) ≡ map Within (3 ∷ 8 ∷ 9 ∷ [])
unfolding at nobody can_offset_bound window earliest_arrival arrivals least_from greatest_to
blocking-bounds = refl

-- or the other comes within a bit time of its start
bit-bounds : map (λ bit. can_offset_bound (at 10 0 9 3) 0 (at 10 0 0 4 ∷ []) nobody bit 1000 10) (1 ∷ 2 ∷ []) ≡ map Within (3 ∷ 7 ∷ [])
unfolding at nobody can_offset_bound window earliest_arrival arrivals least_from greatest_to
bit-bounds = refl
