-- The bounds by clocks: they grow, and none is above that without clocks.
use Rattle.std.proofs.Common.{◌≡◌, ℕ, ◌<◌, ◌≤◌, List, [], ◌∷◌, Option, Some, None, refl, subst, arith}
use Rattle.cpa_units.specs.declared.bound.Bound.{Bound}
use Rattle.cpa_units.specs.Bounds.{IsAtMost}
use Rattle.cpa_events.specs.declared.stream.Stream.{Stream}
use Rattle.cpa_events.specs.Streams.{IsStream}
use Rattle.cpa_events.specs.Events.{Model, IsModel, IsNoDenser}
use Rattle.cpa_events.proofs.EventLaws.{IsNoDenser_refl, first_of}
use Rattle.cpa_window.specs.declared.rivals.Rival.{Rival}
use Rattle.cpa_window.specs.Rivals.{work_in}
use Rattle.cpa_spp.specs.Preemptive.{preemptive_bound}
use Rattle.cpa_can.specs.Can.{can_bound}
use Rattle.cpa_offset.specs.Offsets.{apart_bound}
use Rattle.cpa_offset.proofs.BoundLaws.{offset_bound-grows, offset_bound-le_plain}
use Rattle.cpa_offset.proofs.ApartLaws.{apart_bound-grows, apart_bound-plain}
use Rattle.cpa_offset_can.specs.CanOffsets.{can_apart_bound}
use Rattle.cpa_offset_can.proofs.CanLaws.{can_offset_bound-grows, can_offset_bound-le_plain, can_apart_bound-grows, can_apart_bound-plain}
use Rattle.cpa_clock.specs.Anchors.{Anchors, placed_at}
use Rattle.cpa_clock.specs.declared.anchor.Anchor.{Anchor}
use Rattle.cpa_clock.specs.Rivals.{ClockedRival, streams_on, rest_of}
use Rattle.cpa_clock.specs.Clocked.{preemptive_at, can_at, clocked_preemptive_bound, clocked_can_bound}
use Rattle.cpa_clock.specs.Wider.{IsWiderOn, AreWider, AreRivalsWider, AreSameRivals, AreClocksBelow}
use Rattle.cpa_clock.proofs.WiderLaws.{placed-wider, rest-grows, others-wider, wide-denser}
use Rattle.cpa_clock.proofs.PlainLaws.{others-at_most, rest-at_most}

-- ---- they grow

module _ (worst worst' blocking blocking' : ℕ) (rs ss : List ClockedRival) (cycle : ℕ → ℕ) (count limit : ℕ) (h : worst ≤ worst') (k : blocking ≤ blocking') (wider : AreRivalsWider rs ss) where
  apart-grows : (m n : Model) → IsNoDenser m n → IsAtMost (apart_bound m worst blocking (rest_of None rs cycle count) limit) (apart_bound n worst' blocking' (rest_of None ss cycle count) limit)
  apart-grows m n d = apart_bound-grows m n worst worst' blocking blocking' (rest_of None rs cycle count) (rest_of None ss cycle count) limit d h k (rest-grows rs ss cycle count None wider)

  can_apart-grows : (m n : Model) (bit : ℕ) → IsNoDenser m n → IsAtMost (can_apart_bound m worst blocking (rest_of None rs cycle count) bit limit) (can_apart_bound n worst' blocking' (rest_of None ss cycle count) bit limit)
  can_apart-grows m n bit d = can_apart_bound-grows m n worst worst' blocking blocking' (rest_of None rs cycle count) (rest_of None ss cycle count) bit limit d h k (rest-grows rs ss cycle count None wider)

  -- of one stream
  one-grows : (o p : Option Anchor) (m n : Stream) → IsWiderOn o p m n → IsNoDenser (m ∷ []) (n ∷ []) → IsAtMost (preemptive_at o (m ∷ []) worst blocking rs cycle count limit) (preemptive_at p (n ∷ []) worst' blocking' ss cycle count limit)
  one-grows None None m n w d = apart-grows (m ∷ []) (n ∷ []) d
  one-grows None (Some b) m n w d = absurd w
  one-grows (Some a) None m n w d = absurd w
  one-grows (Some a) (Some b) m n w d =
      let same : b.clock ≡ a.clock = w.clock in
      rw same
      (offset_bound-grows (placed_at m a worst) (placed_at n b worst') blocking blocking' (streams_on a.clock rs) (streams_on a.clock ss) (rest_of (Some a.clock) rs cycle count) (rest_of (Some a.clock) ss cycle count) limit (cycle a.clock)
      (placed-wider a b m n worst worst' w h) k (others-wider rs ss cycle count (Some a.clock) wider))

  can_one-grows : (o p : Option Anchor) (m n : Stream) (bit : ℕ) → IsWiderOn o p m n → IsNoDenser (m ∷ []) (n ∷ []) → IsAtMost (can_at o (m ∷ []) worst blocking rs cycle count bit limit) (can_at p (n ∷ []) worst' blocking' ss cycle count bit limit)
  can_one-grows None None m n bit w d = can_apart-grows (m ∷ []) (n ∷ []) bit d
  can_one-grows None (Some b) m n bit w d = absurd w
  can_one-grows (Some a) None m n bit w d = absurd w
  can_one-grows (Some a) (Some b) m n bit w d =
      let same : b.clock ≡ a.clock = w.clock in
      rw same
      (can_offset_bound-grows (placed_at m a worst) (placed_at n b worst') blocking blocking' (streams_on a.clock rs) (streams_on a.clock ss) (rest_of (Some a.clock) rs cycle count) (rest_of (Some a.clock) ss cycle count) bit limit (cycle a.clock)
      (placed-wider a b m n worst worst' w h) k (others-wider rs ss cycle count (Some a.clock) wider))

  pub clocked_preemptive_bound-grows : (own own' : Model) (a b : Anchors) → AreWider a b 0 own own' → IsAtMost (clocked_preemptive_bound own a worst blocking rs cycle count limit) (clocked_preemptive_bound own' b worst' blocking' ss cycle count limit)
  clocked_preemptive_bound-grows [] [] a b w = apart-grows [] [] tt
  clocked_preemptive_bound-grows [] (n ∷ ns) a b w = absurd w
  clocked_preemptive_bound-grows (m ∷ ms) [] a b w = absurd w
  clocked_preemptive_bound-grows (m ∷ []) (n ∷ []) a b w = one-grows (a 0) (b 0) m n w.0 (wide-denser a b 0 (m ∷ []) (n ∷ []) w)
  clocked_preemptive_bound-grows (m ∷ []) (n ∷ n' ∷ ns) a b w = absurd w.1
  clocked_preemptive_bound-grows (m ∷ m' ∷ ms) (n ∷ []) a b w = absurd w.1
  clocked_preemptive_bound-grows (m ∷ m' ∷ ms) (n ∷ n' ∷ ns) a b w = apart-grows (m ∷ m' ∷ ms) (n ∷ n' ∷ ns) (wide-denser a b 0 (m ∷ m' ∷ ms) (n ∷ n' ∷ ns) w)

  pub clocked_can_bound-grows : (own own' : Model) (a b : Anchors) (bit : ℕ) → AreWider a b 0 own own' → IsAtMost (clocked_can_bound own a worst blocking rs cycle count bit limit) (clocked_can_bound own' b worst' blocking' ss cycle count bit limit)
  clocked_can_bound-grows [] [] a b bit w = can_apart-grows [] [] bit tt
  clocked_can_bound-grows [] (n ∷ ns) a b bit w = absurd w
  clocked_can_bound-grows (m ∷ ms) [] a b bit w = absurd w
  clocked_can_bound-grows (m ∷ []) (n ∷ []) a b bit w = can_one-grows (a 0) (b 0) m n bit w.0 (wide-denser a b 0 (m ∷ []) (n ∷ []) w)
  clocked_can_bound-grows (m ∷ []) (n ∷ n' ∷ ns) a b bit w = absurd w.1
  clocked_can_bound-grows (m ∷ m' ∷ ms) (n ∷ []) a b bit w = absurd w.1
  clocked_can_bound-grows (m ∷ m' ∷ ms) (n ∷ n' ∷ ns) a b bit w = can_apart-grows (m ∷ m' ∷ ms) (n ∷ n' ∷ ns) bit (wide-denser a b 0 (m ∷ m' ∷ ms) (n ∷ n' ∷ ns) w)

-- ---- and none is above that without clocks

module _ (worst blocking : ℕ) (rs : List ClockedRival) (ss : List Rival) (cycle : ℕ → ℕ) (count limit : ℕ) (same : AreSameRivals rs ss) where
  apart-below : (own : Model) → IsAtMost (apart_bound own worst blocking (rest_of None rs cycle count) limit) (preemptive_bound own worst blocking ss limit)
  apart-below own =
      let plain = apart_bound-plain own worst blocking (work_in ss) ss limit (λ w. refl) in
      subst (λ (b : Bound). IsAtMost (apart_bound own worst blocking (rest_of None rs cycle count) limit) b) plain
      (apart_bound-grows own own worst worst blocking blocking (rest_of None rs cycle count) (work_in ss) limit (IsNoDenser_refl own) (omega arith) (omega arith) (λ w. rest-at_most count w cycle rs ss same))

  can_apart-below : (own : Model) (bit : ℕ) → IsAtMost (can_apart_bound own worst blocking (rest_of None rs cycle count) bit limit) (can_bound own worst blocking ss bit limit)
  can_apart-below own bit =
      let plain = can_apart_bound-plain own worst blocking (work_in ss) ss bit limit (λ w. refl) in
      subst (λ (b : Bound). IsAtMost (can_apart_bound own worst blocking (rest_of None rs cycle count) bit limit) b) plain
      (can_apart_bound-grows own own worst worst blocking blocking (rest_of None rs cycle count) (work_in ss) bit limit (IsNoDenser_refl own) (omega arith) (omega arith) (λ w. rest-at_most count w cycle rs ss same))

  only-below : (a : Anchor) → a.clock < count → (k : ℕ) → Some a.clock ≡ Some k → k < count
  only-below a below k e = let same : a.clock ≡ k = cc in omega (arith, same, below)

  one-below : (o : Option Anchor) (m : Stream) → IsStream m → ((a : Anchor) → o ≡ Some a → a.clock < count) → IsAtMost (preemptive_at o (m ∷ []) worst blocking rs cycle count limit) (preemptive_bound (m ∷ []) worst blocking ss limit)
  one-below None m regular below = apart-below (m ∷ [])
  one-below (Some a) m regular below =
      offset_bound-le_plain (placed_at m a worst) blocking (streams_on a.clock rs) (rest_of (Some a.clock) rs cycle count) ss limit (cycle a.clock) regular
      (λ x w. others-at_most count w cycle rs ss (Some a.clock) x same (only-below a (below a refl)))

  can_one-below : (o : Option Anchor) (m : Stream) (bit : ℕ) → IsStream m → ((a : Anchor) → o ≡ Some a → a.clock < count) → IsAtMost (can_at o (m ∷ []) worst blocking rs cycle count bit limit) (can_bound (m ∷ []) worst blocking ss bit limit)
  can_one-below None m bit regular below = can_apart-below (m ∷ []) bit
  can_one-below (Some a) m bit regular below =
      can_offset_bound-le_plain (placed_at m a worst) blocking (streams_on a.clock rs) (rest_of (Some a.clock) rs cycle count) ss bit limit (cycle a.clock) regular
      (λ x w. others-at_most count w cycle rs ss (Some a.clock) x same (only-below a (below a refl)))

  pub clocked_preemptive_bound-at_most : (own : Model) (anchors : Anchors) → IsModel own → AreClocksBelow count anchors → IsAtMost (clocked_preemptive_bound own anchors worst blocking rs cycle count limit) (preemptive_bound own worst blocking ss limit)
  clocked_preemptive_bound-at_most [] anchors regular below = apart-below []
  clocked_preemptive_bound-at_most (m ∷ []) anchors regular below = one-below (anchors 0) m (first_of IsStream m [] regular.each) (below 0)
  clocked_preemptive_bound-at_most (m ∷ n ∷ ms) anchors regular below = apart-below (m ∷ n ∷ ms)

  pub clocked_can_bound-at_most : (own : Model) (anchors : Anchors) (bit : ℕ) → IsModel own → AreClocksBelow count anchors → IsAtMost (clocked_can_bound own anchors worst blocking rs cycle count bit limit) (can_bound own worst blocking ss bit limit)
  clocked_can_bound-at_most [] anchors bit regular below = can_apart-below [] bit
  clocked_can_bound-at_most (m ∷ []) anchors bit regular below = can_one-below (anchors 0) m bit (first_of IsStream m [] regular.each) (below 0)
  clocked_can_bound-at_most (m ∷ n ∷ ms) anchors bit regular below = can_apart-below (m ∷ n ∷ ms) bit
