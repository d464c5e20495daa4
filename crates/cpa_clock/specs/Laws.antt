-- The laws of bounds by clocks.
use Rattle.std.specs.Prelude.{◌≡◌, ℕ, ◌*◌, ◌<◌, ◌≤◌, Option, Some, None, List, map, All, sum_by}
use Rattle.std.specs.List.{AllByRecursion}
use Rattle.cpa_units.specs.declared.bound.Bound.TheVariants.{Within}
use Rattle.cpa_units.specs.Bounds.{IsAtMost}
use Rattle.cpa_events.specs.Events.{Model, IsModel}
use Rattle.cpa_window.specs.declared.rivals.Rival.{Rival}
use Rattle.cpa_spp.specs.Preemptive.{preemptive_bound}
use Rattle.cpa_can.specs.Can.{can_bound}
use Rattle.cpa_offset.specs.Offsets.{others}
use Rattle.cpa_clock.specs.Anchors.{Anchors, Moment, arrivals_from}
use Rattle.cpa_clock.specs.Rivals.{ClockedRival, joint_of, rest_of}
use Rattle.cpa_clock.specs.Clocked.{clocked_preemptive_bound, clocked_can_bound}
use Rattle.cpa_clock.specs.Wider.{AreWider, AreRivalsWider, AreSameRivals, AreClocksBelow, AreOffClocks}

-- a number of events that an input allows in a window that starts at a moment
abbrev pub IsAllowed : Moment → ℕ → Option Model → Anchors → ℕ → Type 0
IsAllowed moment w (Some m) anchors n = n ≤ arrivals_from moment anchors 0 m w
IsAllowed moment w None anchors n = Unit {0}

-- what is known of a rival of which n events come
pub record IsKnownRival (r : ClockedRival) (moment : Moment) (count w n : ℕ) : Type 0 where
  pub clocks_known : AreClocksBelow count r.anchors
  pub allowed : IsAllowed moment w r.model r.anchors n

-- Whatever the moment at which a window starts, the events that rivals' inputs allow bring no more work than is said, where it is known
-- where the moment is on one clock.
abbrev pub WorkIsCovered : Type 0
WorkIsCovered =
    (rival : ℕ → ClockedRival) (most : ℕ → ℕ) (moment : Moment) (count w : ℕ) (cycle : ℕ → ℕ) (known : Option ℕ) (x d : ℕ) (js : List ℕ) → 0 < w →
    ((c : ℕ) → known ≡ Some c → moment c ≡ x) → ((c : ℕ) → c < count → (0 < moment c) × (moment c ≤ cycle c)) →
    AllByRecursion (λ j. IsKnownRival (rival j) moment count w (most j)) js →
    IsAtMost (others (joint_of known (map rival js)) (rest_of known (map rival js) cycle count) x w) (Within d) →
    sum_by (λ j. most j * (rival j).worst) js ≤ d

-- bounds grow where the intervals of own events and of others' are wider, and what they start takes longer
abbrev pub ClockedBoundsGrow : Type 0
ClockedBoundsGrow =
    (own own' : Model) (anchors anchors' : Anchors) (worst worst' blocking blocking' : ℕ) (rivals rivals' : List ClockedRival) (cycle : ℕ → ℕ) (count limit : ℕ) →
    AreWider anchors anchors' 0 own own' → worst ≤ worst' → blocking ≤ blocking' → AreRivalsWider rivals rivals' →
    IsAtMost (clocked_preemptive_bound own anchors worst blocking rivals cycle count limit) (clocked_preemptive_bound own' anchors' worst' blocking' rivals' cycle count limit) ×
    ((bit : ℕ) → IsAtMost (clocked_can_bound own anchors worst blocking rivals cycle count bit limit) (clocked_can_bound own' anchors' worst' blocking' rivals' cycle count bit limit))

-- and none is above that without clocks
abbrev pub ClocksRaiseNoBound : Type 0
ClocksRaiseNoBound =
    (own : Model) (anchors : Anchors) (worst blocking : ℕ) (rivals : List ClockedRival) (plain : List Rival) (cycle : ℕ → ℕ) (count limit : ℕ) → IsModel own →
    AreClocksBelow count anchors → AreSameRivals rivals plain →
    IsAtMost (clocked_preemptive_bound own anchors worst blocking rivals cycle count limit) (preemptive_bound own worst blocking plain limit) ×
    ((bit : ℕ) → IsAtMost (clocked_can_bound own anchors worst blocking rivals cycle count bit limit) (can_bound own worst blocking plain bit limit))

-- where no stream is on a clock, they are the bounds without clocks
abbrev pub PlainBoundsAreTheSame : Type 0
PlainBoundsAreTheSame =
    (own : Model) (anchors : Anchors) (worst blocking : ℕ) (rivals : List ClockedRival) (plain : List Rival) (cycle : ℕ → ℕ) (count limit : ℕ) → AreOffClocks anchors →
    All (λ r. AreOffClocks r.anchors) rivals → AreSameRivals rivals plain →
    (clocked_preemptive_bound own anchors worst blocking rivals cycle count limit ≡ preemptive_bound own worst blocking plain limit) ×
    ((bit : ℕ) → clocked_can_bound own anchors worst blocking rivals cycle count bit limit ≡ can_bound own worst blocking plain bit limit)
