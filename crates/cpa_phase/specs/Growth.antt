-- What streams and clocks are compared by.
use Rattle.std.specs.Prelude.{ℕ, ◌≡◌, ◌+◌, ◌*◌, ◌≤◌, List, [], ◌∷◌, sum_by}
use Rattle.cpa_events.specs.Streams.{stream_eta_plus, IsStream}
use Rattle.cpa_phase.specs.declared.placed.Placed.{Placed}
use Rattle.cpa_phase.specs.declared.clock.Clock.{Clock}

-- the interval of each event of the second stream has that of the first within it, events may come closer together and take
-- longer: so it is where a vector rises, or a least execution falls
pub record IsPlacedNoDenser (p q : Placed) : Type 0 where
  pub period : q.stream.period ≡ p.stream.period
  pub sooner : q.offset ≤ p.offset
  pub later : p.offset + p.stream.jitter ≤ q.offset + q.stream.jitter
  pub distance : q.stream.distance ≤ p.stream.distance
  pub worst : p.worst ≤ q.worst

-- stream by stream; the second list may have more at its end
abbrev pub ArePlacedNoDenser : List Placed → List Placed → Type 0
ArePlacedNoDenser [] qs = Unit {0}
ArePlacedNoDenser (p ∷ ps) [] = ⊥
ArePlacedNoDenser (p ∷ ps) (q ∷ qs) = IsPlacedNoDenser p q × ArePlacedNoDenser ps qs

-- clock by clock, likewise
pub record IsClockNoDenser (c d : Clock) : Type 0 where
  pub cycle : d.cycle ≡ c.cycle
  pub streams : ArePlacedNoDenser c.streams.items d.streams.items

abbrev pub AreClocksNoDenser : List Clock → List Clock → Type 0
AreClocksNoDenser [] ds = Unit {0}
AreClocksNoDenser (c ∷ cs) [] = ⊥
AreClocksNoDenser (c ∷ cs) (d ∷ ds) = IsClockNoDenser c d × AreClocksNoDenser cs ds

-- the work of streams, of each as if nothing were known of its offset
abbrev pub plain_work : List Placed → ℕ → ℕ
plain_work ps w = sum_by (λ p. stream_eta_plus p.stream w * p.worst) ps

-- that of the streams of several clocks
abbrev pub plain_clocks_work : List Clock → ℕ → ℕ
plain_clocks_work clocks w = sum_by (λ (c : Clock). plain_work c.streams.items w) clocks

-- the clock has one stream, which repeats within its cycle
pub record IsSingle (c : Clock) : Type 0 where
  pub stream : Placed
  pub only : c.streams.items ≡ stream ∷ []
  pub regular : IsStream stream.stream
  pub long : stream.stream.period ≤ c.cycle
