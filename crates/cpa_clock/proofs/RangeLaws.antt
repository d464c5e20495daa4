-- The bounds by clocks are at least what an execution takes, and within the limit.
use Rattle.std.proofs.Common.{◌≡◌, ℕ, ◌+◌, ◌*◌, ◌<◌, ◌≤◌, max, length, map, List, [], ◌∷◌, All, Option, Some, None, refl, subst, sym, arith}
use Rattle.std.proofs.lemmas.List.{length-map}
use Rattle.std.proofs.lemmas.List.Elements.{All-map}
use Rattle.cpa_units.specs.declared.bound.Bound.{Bound}
use Rattle.cpa_units.specs.declared.bound.Bound.TheVariants.{Within, Overload}
use Rattle.cpa_units.specs.Bounds.{IsAtMost, RespectsLimit}
use Rattle.cpa_units.proofs.BoundLaws.{IsAtMost_trans, bound_plus-ge_left, zero_at_most}
use Rattle.cpa_events.specs.declared.stream.Stream.{Stream}
use Rattle.cpa_events.specs.Streams.{IsStream}
use Rattle.cpa_events.specs.Events.{Model, IsModel, IsNoDenser}
use Rattle.cpa_window.proofs.BusyWindowLaws.{busy_window_bound-low, busy_window_bound-high}
use Rattle.cpa_events.specs.Events.{delta_minus, eta_plus}
use Rattle.cpa_can.specs.Can.{can_bound}
use Rattle.cpa_can.proofs.CanLaws.{can_bound-ge}
use Rattle.cpa_offset.specs.Offsets.{demand, apart_bound}
use Rattle.cpa_offset.proofs.BoundLaws.{offset_bound-low, offset_bound-limit}
use Rattle.cpa_offset_can.specs.CanOffsets.{can_apart_bound}
use Rattle.cpa_offset_can.proofs.CanLaws.{can_offset_bound-low, can_offset_bound-limit, frames_bound-limit, can_apart_bound-grows, can_apart_bound-plain}
use Rattle.cpa_clock.specs.Anchors.{Anchors, placed_at}
use Rattle.cpa_clock.specs.declared.anchor.Anchor.{Anchor}
use Rattle.cpa_clock.specs.Rivals.{ClockedRival, joint_of, rest_of}
use Rattle.cpa_clock.specs.Clocked.{only_anchor, preemptive_at, can_at, clocked_preemptive_bound, clocked_can_bound}

-- a stream that is on a clock comes again in each cycle of it
abbrev pub ReturnsOn : (ℕ → ℕ) → Option Anchor → Stream → Type 0
ReturnsOn cycle None m = Unit {0}
ReturnsOn cycle (Some a) m = IsStream m × (m.period ≤ cycle a.clock)

-- the stream of an input that has one
abbrev pub OnlyReturns : (ℕ → ℕ) → Anchors → Model → Type 0
OnlyReturns cycle anchors [] = Unit {0}
OnlyReturns cycle anchors (m ∷ []) = ReturnsOn cycle (anchors 0) m
OnlyReturns cycle anchors (m ∷ n ∷ ms) = Unit {0}

-- ---- bounds that aren't by one clock

apart-low : (own : Model) (worst blocking : ℕ) (rest : ℕ → Bound) (limit : ℕ) → IsAtMost (Within worst) (apart_bound own worst blocking rest limit)
apart-low own worst blocking rest limit =
    busy_window_bound-low (demand worst blocking rest) own limit worst (λ w. bound_plus-ge_left worst (blocking + 1 * worst) (rest w) (omega arith))

-- the same stream, with a period of some ticks
abbrev with_period : Stream → Stream
with_period m = record m { period = max m.period 1 }

with_period-thinner : (own : Model) → IsNoDenser (map with_period own) own
with_period-thinner [] = tt
with_period-thinner (m ∷ ms) = (record { period = omega arith; jitter = omega arith; distance = omega arith }, with_period-thinner ms)

with_period-model : (own : Model) → 0 < length own → IsModel (map with_period own)
with_period-model own some =
    record { some = omega (arith, some, length-map own with_period); each = All-map IsStream with_period own (λ k d less. omega arith) }

can_apart-low : (own : Model) (worst blocking : ℕ) (rest : ℕ → Bound) (bit limit : ℕ) → 0 < length own → IsAtMost (Within worst) (can_apart_bound own worst blocking rest bit limit)
can_apart-low own worst blocking rest bit limit some =
    let nobody : ℕ → Bound = λ w. Within 0 in
    let thin : Model = map with_period own in
    let plain : can_apart_bound thin worst blocking nobody bit limit ≡ can_bound thin worst blocking [] bit limit = can_apart_bound-plain thin worst blocking nobody [] bit limit (λ w. refl) in
    let low : IsAtMost (Within worst) (can_apart_bound thin worst blocking nobody bit limit) =
    subst (λ (b : Bound). IsAtMost (Within worst) b) (sym plain) (can_bound-ge thin worst blocking [] bit limit (with_period-model own some)) in
    IsAtMost_trans (Within worst) (can_apart_bound thin worst blocking nobody bit limit) (can_apart_bound own worst blocking rest bit limit) low
    (can_apart_bound-grows thin own worst worst blocking blocking nobody rest bit limit (with_period-thinner own) (omega arith) (omega arith) (λ w. zero_at_most (rest w)))

-- ---- all

module _ (worst blocking : ℕ) (rivals : List ClockedRival) (cycle : ℕ → ℕ) (count limit : ℕ) where
  one-low : (o : Option Anchor) (m : Stream) → ReturnsOn cycle o m → IsAtMost (Within worst) (preemptive_at o (m ∷ []) worst blocking rivals cycle count limit)
  one-low None m h = apart-low (m ∷ []) worst blocking (rest_of None rivals cycle count) limit
  one-low (Some a) m h = offset_bound-low (placed_at m a worst) blocking (joint_of (Some a.clock) rivals) (rest_of (Some a.clock) rivals cycle count) limit (cycle a.clock) h.0 h.1

  -- the execution is a bound from below
  pub clocked_preemptive_bound-low : (own : Model) (anchors : Anchors) → OnlyReturns cycle anchors own → IsAtMost (Within worst) (clocked_preemptive_bound own anchors worst blocking rivals cycle count limit)
  clocked_preemptive_bound-low [] anchors h = apart-low [] worst blocking (rest_of None rivals cycle count) limit
  clocked_preemptive_bound-low (m ∷ []) anchors h = one-low (anchors 0) m h
  clocked_preemptive_bound-low (m ∷ n ∷ ms) anchors h = apart-low (m ∷ n ∷ ms) worst blocking (rest_of None rivals cycle count) limit

  can_one-low : (o : Option Anchor) (m : Stream) (bit : ℕ) → ReturnsOn cycle o m → IsAtMost (Within worst) (can_at o (m ∷ []) worst blocking rivals cycle count bit limit)
  can_one-low None m bit h = can_apart-low (m ∷ []) worst blocking (rest_of None rivals cycle count) bit limit (omega arith)
  can_one-low (Some a) m bit h = can_offset_bound-low (placed_at m a worst) blocking (joint_of (Some a.clock) rivals) (rest_of (Some a.clock) rivals cycle count) bit limit (cycle a.clock) h.0 h.1

  -- and so is the length of a frame
  pub clocked_can_bound-low : (own : Model) (anchors : Anchors) (bit : ℕ) → 0 < length own → OnlyReturns cycle anchors own → IsAtMost (Within worst) (clocked_can_bound own anchors worst blocking rivals cycle count bit limit)
  clocked_can_bound-low [] anchors bit some h = absurd (omega arith)
  clocked_can_bound-low (m ∷ []) anchors bit some h = can_one-low (anchors 0) m bit h
  clocked_can_bound-low (m ∷ n ∷ ms) anchors bit some h = can_apart-low (m ∷ n ∷ ms) worst blocking (rest_of None rivals cycle count) bit limit (omega arith)

  apart-limit : (own : Model) (rest : ℕ → Bound) → RespectsLimit limit (apart_bound own worst blocking rest limit)
  apart-limit own rest = busy_window_bound-high (demand worst blocking rest) (delta_minus own) limit

  preemptive-limit : (o : Option Anchor) (own : Model) → RespectsLimit limit (preemptive_at o own worst blocking rivals cycle count limit)
  preemptive-limit None own = apart-limit own (rest_of None rivals cycle count)
  preemptive-limit (Some a) [] = apart-limit [] (rest_of None rivals cycle count)
  preemptive-limit (Some a) (m ∷ ms) = offset_bound-limit (placed_at m a worst) blocking (joint_of (Some a.clock) rivals) (rest_of (Some a.clock) rivals cycle count) limit (cycle a.clock)

  -- a number among bounds is within the limit
  pub clocked_preemptive_bound-limit : (own : Model) (anchors : Anchors) → RespectsLimit limit (clocked_preemptive_bound own anchors worst blocking rivals cycle count limit)
  clocked_preemptive_bound-limit own anchors = preemptive-limit (only_anchor own anchors) own

  can_apart-limit : (own : Model) (rest : ℕ → Bound) (bit : ℕ) → RespectsLimit limit (can_apart_bound own worst blocking rest bit limit)
  can_apart-limit own rest bit = frames_bound-limit worst blocking rest (eta_plus own) (delta_minus own) bit limit

  can-limit : (o : Option Anchor) (own : Model) (bit : ℕ) → RespectsLimit limit (can_at o own worst blocking rivals cycle count bit limit)
  can-limit None own bit = can_apart-limit own (rest_of None rivals cycle count) bit
  can-limit (Some a) [] bit = can_apart-limit [] (rest_of None rivals cycle count) bit
  can-limit (Some a) (m ∷ ms) bit = can_offset_bound-limit (placed_at m a worst) blocking (joint_of (Some a.clock) rivals) (rest_of (Some a.clock) rivals cycle count) bit limit (cycle a.clock)

  pub clocked_can_bound-limit : (own : Model) (anchors : Anchors) (bit : ℕ) → RespectsLimit limit (clocked_can_bound own anchors worst blocking rivals cycle count bit limit)
  clocked_can_bound-limit own anchors bit = can-limit (only_anchor own anchors) own bit
