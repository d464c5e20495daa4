-- The laws of the bound. `rest w` is what others ask for in a window wherever it starts: `elsewhere` of clocks and rivals.
use Rattle.std.specs.Prelude.{ℕ, ◌≡◌, ◌<◌, ◌≤◌, List, [], ◌∷◌, All, length, slice_index_or}
use Rattle.cpa_units.specs.declared.bound.Bound.{Bound}
use Rattle.cpa_units.specs.declared.bound.Bound.TheVariants.{Within}
use Rattle.cpa_units.specs.Bounds.{IsAtMost, RespectsLimit, bound_plus}
use Rattle.cpa_events.specs.Streams.{IsStream}
use Rattle.cpa_events.specs.Events.{Model, IsNoDenser}
use Rattle.cpa_window.specs.declared.rivals.Rival.{Rival}
use Rattle.cpa_window.specs.Rivals.{work_in, AreNoHeavier}
use Rattle.cpa_spp.specs.Preemptive.{preemptive_bound}
use Rattle.cpa_phase.specs.declared.placed.Placed.{Placed}
use Rattle.cpa_phase.specs.declared.clock.Clock.{Clock}
use Rattle.cpa_phase.specs.Streams.{IsCandidate, IsPlacedOn}
use Rattle.cpa_phase.specs.Growth.{IsPlacedNoDenser, ArePlacedNoDenser, AreClocksNoDenser, plain_work, plain_clocks_work, IsSingle}
use Rattle.cpa_offset.specs.Offsets.{elsewhere, others, bound_from, offset_bound, apart_bound}

-- no start of a busy window, whenever it is, gives more than some candidate of the critical instant in the first cycle: a moment
-- at which an event of the task or of a higher one on its clock comes as late as it can
abbrev pub StartsAreEnough : Type 0
StartsAreEnough =
    (own : Placed) (blocking : ℕ) (joint : List Placed) (rest : ℕ → Bound) (limit cycle x : ℕ) → 0 < cycle → All (IsPlacedOn cycle) (own ∷ joint) →
    (k y : ℕ) × (k < length (own ∷ joint)) × (0 < y) × (y ≤ cycle) × IsCandidate (slice_index_or (own ∷ joint) k own) y ×
    IsAtMost (bound_from own blocking joint rest limit x) (bound_from own blocking joint rest limit y)

-- own events that may come sooner and later, a longer execution, more blocking and others that ask for more leave no smaller a bound
abbrev pub OffsetBoundsGrow : Type 0
OffsetBoundsGrow =
    (own own' : Placed) (blocking blocking' : ℕ) (joint joint' : List Placed) (rest rest' : ℕ → Bound) (limit cycle : ℕ) → IsPlacedNoDenser own own' → blocking ≤ blocking' →
    ((x w : ℕ) → IsAtMost (others joint rest x w) (others joint' rest' x w)) → IsAtMost (offset_bound own blocking joint rest limit cycle) (offset_bound own' blocking' joint' rest' limit cycle)

-- a bound is at least the execution, and a number among bounds is within the limit
abbrev pub OffsetBoundsAreInRange : Type 0
OffsetBoundsAreInRange =
    (own : Placed) (blocking : ℕ) (joint : List Placed) (rest : ℕ → Bound) (limit cycle : ℕ) → IsStream own.stream → own.stream.period ≤ cycle →
    IsAtMost (Within own.worst) (offset_bound own blocking joint rest limit cycle) × RespectsLimit limit (offset_bound own blocking joint rest limit cycle)

-- it is never above the bound without offsets, where the rivals ask for at least as much
abbrev pub NeverAbovePlain : Type 0
NeverAbovePlain =
    (own : Placed) (blocking : ℕ) (joint : List Placed) (rest : ℕ → Bound) (rivals : List Rival) (limit cycle : ℕ) → IsStream own.stream →
    ((x w : ℕ) → IsAtMost (others joint rest x w) (work_in rivals w)) → IsAtMost (offset_bound own blocking joint rest limit cycle) (preemptive_bound (own.stream ∷ []) own.worst blocking rivals limit)

-- where the task has no higher one on its clock, it is that bound
abbrev pub AloneIsPlain : Type 0
AloneIsPlain =
    (own : Placed) (blocking : ℕ) (rest : ℕ → Bound) (rivals : List Rival) (limit cycle : ℕ) → IsStream own.stream → own.stream.period ≤ cycle →
    ((w : ℕ) → rest w ≡ work_in rivals w) → offset_bound own blocking [] rest limit cycle ≡ preemptive_bound (own.stream ∷ []) own.worst blocking rivals limit

-- others ask for more where the intervals of their events are wider
abbrev pub OthersGrow : Type 0
OthersGrow =
    ((joint joint' : List Placed) (rest rest' : ℕ → Bound) (x w : ℕ) → ArePlacedNoDenser joint joint' → IsAtMost (rest w) (rest' w) → IsAtMost (others joint rest x w) (others joint' rest' x w)) ×
    ((clocks clocks' : List Clock) (free free' : List Rival) (w : ℕ) → AreClocksNoDenser clocks clocks' → AreNoHeavier free free' → IsAtMost (elsewhere clocks free w) (elsewhere clocks' free' w))

-- and for no more than what is known of them without offsets; elsewhere for as much, where each clock has one stream
abbrev pub OthersAreFewer : Type 0
OthersAreFewer =
    ((joint : List Placed) (rest : ℕ → Bound) (x w : ℕ) → IsAtMost (others joint rest x w) (bound_plus (Within (plain_work joint w)) (rest w))) ×
    ((clocks : List Clock) (free : List Rival) (w : ℕ) → IsAtMost (elsewhere clocks free w) (bound_plus (Within (plain_clocks_work clocks w)) (work_in free w))) ×
    ((clocks : List Clock) (free : List Rival) (w : ℕ) → All IsSingle clocks → elsewhere clocks free w ≡ bound_plus (Within (plain_clocks_work clocks w)) (work_in free w))

-- the same of a task that isn't on one clock
abbrev pub ApartBoundsGrow : Type 0
ApartBoundsGrow =
    ((own own' : Model) (worst worst' blocking blocking' : ℕ) (rest rest' : ℕ → Bound) (limit : ℕ) → IsNoDenser own own' → worst ≤ worst' → blocking ≤ blocking' →
    ((w : ℕ) → IsAtMost (rest w) (rest' w)) → IsAtMost (apart_bound own worst blocking rest limit) (apart_bound own' worst' blocking' rest' limit)) ×
    ((own : Model) (worst blocking : ℕ) (rest : ℕ → Bound) (rivals : List Rival) (limit : ℕ) → ((w : ℕ) → rest w ≡ work_in rivals w) →
    apart_bound own worst blocking rest limit ≡ preemptive_bound own worst blocking rivals limit)
