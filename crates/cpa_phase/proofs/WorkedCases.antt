-- Worked phases: a stream that comes each 10 ticks from 7 after its clock's start, up to 4 ticks late.
use Rattle.std.proofs.Common.{◌≡◌, [], ◌∷◌, map, refl}
use Rattle.cpa_units.specs.Search.{greatest_to}
use Rattle.cpa_events.specs.declared.stream.Stream.{Stream}
use Rattle.cpa_phase.specs.Phases.{phase_of, earliest_arrival, arrivals}
use Rattle.cpa_phase.specs.Clocks.{most_of, clock_work}

late : Stream
late = record { period = 10; jitter = 4; distance = 0 }

-- its latest moments are 11, 21, 31
phases : map (phase_of late 7) (1 ∷ 10 ∷ 11 ∷ 12 ∷ 21 ∷ []) ≡ 0 ∷ 1 ∷ 0 ∷ 9 ∷ 0 ∷ []
unfolding late
phases = refl

-- from a candidate on the first event may come at once, the second 6 ticks after that; 5 ticks after a candidate events come at 1 and 11
earliest-times : map (earliest_arrival late 0) (1 ∷ 2 ∷ 3 ∷ []) ≡ 0 ∷ 6 ∷ 16 ∷ []
unfolding late earliest_arrival
earliest-times = refl

later-times : map (earliest_arrival late 5) (1 ∷ 2 ∷ 3 ∷ []) ≡ 1 ∷ 11 ∷ 21 ∷ []
unfolding late earliest_arrival
later-times = refl

counts : map (arrivals late 5) (0 ∷ 1 ∷ 2 ∷ 11 ∷ 12 ∷ 22 ∷ []) ≡ 0 ∷ 0 ∷ 1 ∷ 1 ∷ 2 ∷ 3 ∷ []
unfolding late arrivals earliest_arrival greatest_to
counts = refl

-- two streams 5 ticks apart, of 3 and 4 ticks: in a window of 5 ticks either of them comes, in one of 6 both
apart-work : map (clock_work (record { stream = record { period = 10; jitter = 0; distance = 0 }; offset = 0; worst = 3 } ∷ record { stream = record { period = 10; jitter = 0; distance = 0 }; offset = 5; worst = 4 } ∷ []) 10) (1 ∷ 5 ∷ 6 ∷ 11 ∷ []) ≡ 4 ∷ 4 ∷ 7 ∷ 11 ∷ []
unfolding most_of arrivals earliest_arrival greatest_to
apart-work = refl
