-- Inputs on clocks that may come at least as densely as others: each stream's intervals are as wide at both ends.
use Rattle.std.specs.Prelude.{◌≡◌, ℕ, ◌+◌, ◌<◌, ◌≤◌, Option, Some, None, List, [], ◌∷◌, All}
use Rattle.cpa_events.specs.declared.stream.Stream.{Stream}
use Rattle.cpa_events.specs.Streams.{IsStream, IsStreamNoDenser}
use Rattle.cpa_events.specs.Events.{Model}
use Rattle.cpa_window.specs.declared.rivals.Rival.{Rival}
use Rattle.cpa_phase.specs.Growth.{IsPlacedNoDenser}
use Rattle.cpa_clock.specs.Anchors.{Anchors, placed_at}
use Rattle.cpa_clock.specs.declared.anchor.Anchor.{Anchor}
use Rattle.cpa_clock.specs.Rivals.{ClockedRival}

-- two streams on one clock, of which the second's intervals have those of the first within them
pub record IsWider (a b : Anchor) (m n : Stream) : Type 0 where
  pub clock : b.clock ≡ a.clock
  pub placed : IsPlacedNoDenser (placed_at m a 0) (placed_at n b 0)

-- the same of streams that may be on no clock
abbrev pub IsWiderOn : Option Anchor → Option Anchor → Stream → Stream → Type 0
IsWiderOn None None m n = IsStreamNoDenser m n
IsWiderOn (Some a) (Some b) m n = IsWider a b m n
IsWiderOn None (Some b) m n = ⊥
IsWiderOn (Some a) None m n = ⊥

-- stream by stream, the places going on from `first`
abbrev pub AreWider : Anchors → Anchors → ℕ → Model → Model → Type 0
AreWider a b first [] [] = Unit {0}
AreWider a b first [] (n ∷ ns) = ⊥
AreWider a b first (m ∷ ms) [] = ⊥
AreWider a b first (m ∷ ms) (n ∷ ns) = IsWiderOn (a first) (b first) m n × AreWider a b (first + 1) ms ns

-- none is wider than an unbounded input
abbrev pub IsInputWider : Anchors → Anchors → Option Model → Option Model → Type 0
IsInputWider a b m None = Unit {0}
IsInputWider a b (Some m) (Some n) = AreWider a b 0 m n
IsInputWider a b None (Some n) = ⊥

-- the second rival asks for at least as much as the first
pub record IsRivalWider (r s : ClockedRival) : Type 0 where
  pub input : IsInputWider r.anchors s.anchors r.model s.model
  pub worst : r.worst ≤ s.worst

-- rival by rival; the second list may have more at its end
abbrev pub AreRivalsWider : List ClockedRival → List ClockedRival → Type 0
AreRivalsWider [] ss = Unit {0}
AreRivalsWider (r ∷ rs) [] = ⊥
AreRivalsWider (r ∷ rs) (s ∷ ss) = IsRivalWider r s × AreRivalsWider rs ss

-- every stream of an input has a period of some ticks
abbrev pub IsRegularInput : Option Model → Type 0
IsRegularInput None = Unit {0}
IsRegularInput (Some m) = All IsStream m

-- the same rival, with its clocks and without
pub record IsSameRival (r : ClockedRival) (s : Rival) : Type 0 where
  pub model : s.model ≡ r.model
  pub worst : s.worst ≡ r.worst

abbrev pub AreSameRivals : List ClockedRival → List Rival → Type 0
AreSameRivals [] [] = Unit {0}
AreSameRivals [] (s ∷ ss) = ⊥
AreSameRivals (r ∷ rs) [] = ⊥
AreSameRivals (r ∷ rs) (s ∷ ss) = IsSameRival r s × AreSameRivals rs ss

-- each stream's clock is one of the first so many
abbrev pub AreClocksBelow : ℕ → Anchors → Type 0
AreClocksBelow count anchors = (q : ℕ) (a : Anchor) → anchors q ≡ Some a → a.clock < count

-- no stream is on a clock
abbrev pub AreOffClocks : Anchors → Type 0
AreOffClocks anchors = (q : ℕ) → anchors q ≡ None
