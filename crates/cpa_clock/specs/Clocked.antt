-- The bounds of tasks whose streams, or whose rivals' streams, are on clocks.
use Rattle.std.specs.Prelude.{ℕ, Option, Some, None, List, [], ◌∷◌}
use Rattle.cpa_units.specs.declared.bound.Bound.{Bound}
use Rattle.cpa_events.specs.Events.{Model}
use Rattle.cpa_offset.specs.Offsets.{offset_bound, apart_bound}
use Rattle.cpa_offset_can.specs.CanOffsets.{can_offset_bound, can_apart_bound}
use Rattle.cpa_clock.specs.Anchors.{Anchors, placed_at}
use Rattle.cpa_clock.specs.declared.anchor.Anchor.{Anchor}
use Rattle.cpa_clock.specs.Rivals.{ClockedRival, joint_of, rest_of}

-- whether an input has one stream, and that is on a clock: which one, and where
abbrev pub only_anchor : Model → Anchors → Option Anchor
only_anchor [] anchors = None
only_anchor (m ∷ []) anchors = anchors 0
only_anchor (m ∷ n ∷ ms) anchors = None

-- under preemptive priority
abbrev pub preemptive_at : Option Anchor → Model → ℕ → ℕ → List ClockedRival → (ℕ → ℕ) → ℕ → ℕ → Bound
preemptive_at (Some a) (m ∷ ms) worst blocking rivals cycle count limit =
    offset_bound (placed_at m a worst) blocking (joint_of (Some a.clock) rivals) (rest_of (Some a.clock) rivals cycle count) limit (cycle a.clock)
preemptive_at (Some a) [] worst blocking rivals cycle count limit = apart_bound [] worst blocking (rest_of None rivals cycle count) limit
preemptive_at None own worst blocking rivals cycle count limit = apart_bound own worst blocking (rest_of None rivals cycle count) limit

abbrev pub clocked_preemptive_bound : Model → Anchors → ℕ → ℕ → List ClockedRival → (ℕ → ℕ) → ℕ → ℕ → Bound
clocked_preemptive_bound own anchors = preemptive_at (only_anchor own anchors) own

-- and on a CAN bus
abbrev pub can_at : Option Anchor → Model → ℕ → ℕ → List ClockedRival → (ℕ → ℕ) → ℕ → ℕ → ℕ → Bound
can_at (Some a) (m ∷ ms) worst blocking rivals cycle count bit limit =
    can_offset_bound (placed_at m a worst) blocking (joint_of (Some a.clock) rivals) (rest_of (Some a.clock) rivals cycle count) bit limit (cycle a.clock)
can_at (Some a) [] worst blocking rivals cycle count bit limit = can_apart_bound [] worst blocking (rest_of None rivals cycle count) bit limit
can_at None own worst blocking rivals cycle count bit limit = can_apart_bound own worst blocking (rest_of None rivals cycle count) bit limit

abbrev pub clocked_can_bound : Model → Anchors → ℕ → ℕ → List ClockedRival → (ℕ → ℕ) → ℕ → ℕ → ℕ → Bound
clocked_can_bound own anchors = can_at (only_anchor own anchors) own
