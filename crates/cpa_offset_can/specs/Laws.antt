-- The laws of the bound. `rest w` is what others ask for in a window wherever it starts: `elsewhere` of clocks and rivals.
use Rattle.std.specs.Prelude.{ℕ, ◌≡◌, ◌<◌, ◌≤◌, List, [], ◌∷◌, All, length, slice_index_or}
use Rattle.cpa_units.specs.declared.bound.Bound.{Bound}
use Rattle.cpa_units.specs.declared.bound.Bound.TheVariants.{Within}
use Rattle.cpa_units.specs.Bounds.{IsAtMost, RespectsLimit}
use Rattle.cpa_events.specs.Streams.{IsStream}
use Rattle.cpa_events.specs.Events.{Model, IsNoDenser}
use Rattle.cpa_window.specs.declared.rivals.Rival.{Rival}
use Rattle.cpa_window.specs.Rivals.{work_in}
use Rattle.cpa_can.specs.Can.{can_bound}
use Rattle.cpa_phase.specs.declared.placed.Placed.{Placed}
use Rattle.cpa_phase.specs.Streams.{IsCandidate, IsPlacedOn}
use Rattle.cpa_phase.specs.Growth.{IsPlacedNoDenser}
use Rattle.cpa_offset.specs.Offsets.{others}
use Rattle.cpa_offset_can.specs.CanOffsets.{can_bound_from, can_offset_bound, can_apart_bound}

-- no start of a busy window gives more than some candidate of the critical instant in the first cycle
abbrev pub CanStartsAreEnough : Type 0
CanStartsAreEnough =
    (own : Placed) (blocking : ℕ) (joint : List Placed) (rest : ℕ → Bound) (bit limit cycle x : ℕ) → 0 < cycle → All (IsPlacedOn cycle) (own ∷ joint) →
    (k y : ℕ) × (k < length (own ∷ joint)) × (0 < y) × (y ≤ cycle) × IsCandidate (slice_index_or (own ∷ joint) k own) y ×
    IsAtMost (can_bound_from own blocking joint rest bit limit x) (can_bound_from own blocking joint rest bit limit y)

-- own frames that may come sooner and later, and are longer, more blocking and others that ask for more leave no smaller a bound
abbrev pub CanOffsetBoundsGrow : Type 0
CanOffsetBoundsGrow =
    (own own' : Placed) (blocking blocking' : ℕ) (joint joint' : List Placed) (rest rest' : ℕ → Bound) (bit limit cycle : ℕ) → IsPlacedNoDenser own own' → blocking ≤ blocking' →
    ((x w : ℕ) → IsAtMost (others joint rest x w) (others joint' rest' x w)) → IsAtMost (can_offset_bound own blocking joint rest bit limit cycle) (can_offset_bound own' blocking' joint' rest' bit limit cycle)

-- a bound is at least the length of the frame, and a number among bounds is within the limit
abbrev pub CanOffsetBoundsAreInRange : Type 0
CanOffsetBoundsAreInRange =
    (own : Placed) (blocking : ℕ) (joint : List Placed) (rest : ℕ → Bound) (bit limit cycle : ℕ) → IsStream own.stream → own.stream.period ≤ cycle →
    IsAtMost (Within own.worst) (can_offset_bound own blocking joint rest bit limit cycle) × RespectsLimit limit (can_offset_bound own blocking joint rest bit limit cycle)

-- it is never above the bound without offsets, where the rivals ask for at least as much
abbrev pub CanNeverAbovePlain : Type 0
CanNeverAbovePlain =
    (own : Placed) (blocking : ℕ) (joint : List Placed) (rest : ℕ → Bound) (rivals : List Rival) (bit limit cycle : ℕ) → IsStream own.stream →
    ((x w : ℕ) → IsAtMost (others joint rest x w) (work_in rivals w)) → IsAtMost (can_offset_bound own blocking joint rest bit limit cycle) (can_bound (own.stream ∷ []) own.worst blocking rivals bit limit)

-- where the frame has no higher one on its clock, it is that bound
abbrev pub CanAloneIsPlain : Type 0
CanAloneIsPlain =
    (own : Placed) (blocking : ℕ) (rest : ℕ → Bound) (rivals : List Rival) (bit limit cycle : ℕ) → IsStream own.stream → own.stream.period ≤ cycle →
    ((w : ℕ) → rest w ≡ work_in rivals w) → can_offset_bound own blocking [] rest bit limit cycle ≡ can_bound (own.stream ∷ []) own.worst blocking rivals bit limit

-- the same of a frame that isn't on one clock
abbrev pub CanApartBoundsGrow : Type 0
CanApartBoundsGrow =
    ((own own' : Model) (worst worst' blocking blocking' : ℕ) (rest rest' : ℕ → Bound) (bit limit : ℕ) → IsNoDenser own own' → worst ≤ worst' → blocking ≤ blocking' →
    ((w : ℕ) → IsAtMost (rest w) (rest' w)) → IsAtMost (can_apart_bound own worst blocking rest bit limit) (can_apart_bound own' worst' blocking' rest' bit limit)) ×
    ((own : Model) (worst blocking : ℕ) (rest : ℕ → Bound) (rivals : List Rival) (bit limit : ℕ) → ((w : ℕ) → rest w ≡ work_in rivals w) →
    can_apart_bound own worst blocking rest bit limit ≡ can_bound own worst blocking rivals bit limit)
