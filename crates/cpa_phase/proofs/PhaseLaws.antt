-- The laws of one stream, as a window sees it that starts at a phase of it.
use Rattle.std.proofs.Common.{◌≡◌, ℕ, zero, suc, ◌+◌, ◌-◌, ◌*◌, ◌<◌, ◌≤◌, max, min, ltb, refl, ap, inl, inr, arith}
use Rattle.std.specs.Int.{div_ceil}
use Rattle.std.proofs.lemmas.Bool.{cases_lt, ltb-true, lt-ltb}
use Rattle.std.proofs.Math.Nat.{mul-le-mul_left, mul-le-mul_right, le_trans, le-max_left, le-max_right, max-le, le-min, min-le_left, min-le_right}
use Rattle.cpa_units.proofs.SearchLaws.{greatest_to-le, greatest_to-passes, greatest_to-greatest}
use Rattle.cpa_units.proofs.NumberLaws.{div_ceil-le, div_ceil-le_self, lt-div_ceil, lt-div_ceil_below}
use Rattle.cpa_events.specs.declared.stream.Stream.{Stream}
use Rattle.cpa_events.specs.Streams.{stream_delta_minus, stream_eta_plus, IsStream}
use Rattle.cpa_units.specs.Search.{greatest_to}
use Rattle.cpa_events.proofs.StreamLaws.{at_least_from_below}
use Rattle.cpa_phase.specs.Phases.{earliest_arrival, arrivals, by_period}

-- ---- how early the n-th event can come

pub earliest_arrival-zero : (m : Stream) (phase : ℕ) → earliest_arrival m phase 0 ≡ 0
unfolding earliest_arrival
earliest_arrival-zero m phase = refl

pub earliest_arrival-by_gaps : (m : Stream) (phase n : ℕ) → 0 < n → earliest_arrival m phase n ≡ max ((n - 1) * m.distance) (phase + (n - 1) * m.period - m.jitter)
unfolding earliest_arrival
earliest_arrival-by_gaps m phase zero one = absurd (omega arith)
earliest_arrival-by_gaps m phase (suc gaps) one = let e : suc gaps - 1 ≡ gaps = omega arith in rw e refl

-- what both of its parts say
pub earliest_arrival-parts : (m : Stream) (phase gaps d : ℕ) → gaps * m.distance ≤ d → gaps * m.period + phase ≤ d + m.jitter → earliest_arrival m phase (suc gaps) ≤ d
unfolding earliest_arrival
earliest_arrival-parts m phase gaps d far late = max-le far (let less : phase + gaps * m.period - m.jitter ≤ d = omega arith in less)

pub earliest_arrival-distance : (m : Stream) (phase gaps : ℕ) → gaps * m.distance ≤ earliest_arrival m phase (suc gaps)
unfolding earliest_arrival
earliest_arrival-distance m phase gaps = le-max_left _ _

pub earliest_arrival-period : (m : Stream) (phase gaps : ℕ) → gaps * m.period + phase ≤ earliest_arrival m phase (suc gaps) + m.jitter
unfolding earliest_arrival
earliest_arrival-period m phase gaps =
    let less : phase + gaps * m.period - m.jitter ≤ earliest_arrival m phase (suc gaps) = le-max_right _ _ in
    omega arith

-- at phase 0 it is the least time of n events
pub earliest_arrival-plain : (m : Stream) (n : ℕ) → earliest_arrival m 0 n ≡ stream_delta_minus m n
unfolding earliest_arrival stream_delta_minus
earliest_arrival-plain m zero = refl
earliest_arrival-plain m (suc gaps) = let e : 0 + gaps * m.period ≡ gaps * m.period = omega arith in rw e refl

-- where intervals are wider, and periods no longer, events come no later
pub earliest_arrival-wider : (m n : Stream) (phase phase' k : ℕ) → n.period ≤ m.period → n.distance ≤ m.distance → phase' + m.jitter ≤ phase + n.jitter → earliest_arrival n phase' k ≤ earliest_arrival m phase k
earliest_arrival-wider m n phase phase' zero period near less = omega (arith, earliest_arrival-zero n phase')
earliest_arrival-wider m n phase phase' (suc gaps) period near less =
    earliest_arrival-parts n phase' gaps (earliest_arrival m phase (suc gaps))
    (le_trans (mul-le-mul_left gaps near) (earliest_arrival-distance m phase gaps))
    (let shorter : gaps * n.period ≤ gaps * m.period = mul-le-mul_left gaps period in omega (arith, earliest_arrival-period m phase gaps))

pub earliest_arrival-ge : (m : Stream) (phase k : ℕ) → stream_delta_minus m k ≤ earliest_arrival m phase k
earliest_arrival-ge m phase k = let h = earliest_arrival-wider m m phase 0 k (omega arith) (omega arith) (omega arith) in rw (earliest_arrival-plain m k) at h

-- more events take no less time
pub earliest_arrival-mono : (m : Stream) (phase a b : ℕ) → a ≤ b → earliest_arrival m phase a ≤ earliest_arrival m phase b
earliest_arrival-mono m phase zero b h = omega (arith, earliest_arrival-zero m phase)
earliest_arrival-mono m phase (suc a) zero h = absurd (omega arith)
earliest_arrival-mono m phase (suc a) (suc b) h =
    earliest_arrival-parts m phase a (earliest_arrival m phase (suc b))
    (le_trans (mul-le-mul_right m.distance (omega arith)) (earliest_arrival-distance m phase b))
    (let more : a * m.period ≤ b * m.period = mul-le-mul_right m.period (omega arith) in omega (arith, earliest_arrival-period m phase b))

-- ---- the most events of a window

pub arrivals-le : (m : Stream) (phase window : ℕ) → arrivals m phase window ≤ window + m.jitter
unfolding arrivals
arrivals-le m phase window = greatest_to-le _ _

arrivals-reach_within : (m : Stream) (phase n window : ℕ) → n ≤ window + m.jitter → earliest_arrival m phase n < window → n ≤ arrivals m phase window
unfolding arrivals
arrivals-reach_within m phase n window near h = greatest_to-greatest _ _ n near (lt-ltb _ _ h)

-- so many events that fit are among those that the search looks at
within_search : (m : Stream) (phase n window : ℕ) → IsStream m → earliest_arrival m phase n < window → n ≤ window + m.jitter
within_search m phase zero window p h = omega arith
within_search m phase (suc gaps) window p h =
    let long : gaps * 1 ≤ gaps * m.period = mul-le-mul_left gaps (omega arith) in
    omega (arith, earliest_arrival-period m phase gaps)

-- where n events can have come before the end, n events fit
pub arrivals-reach : (m : Stream) (phase n window : ℕ) → IsStream m → earliest_arrival m phase n < window → n ≤ arrivals m phase window
arrivals-reach m phase n window p h = arrivals-reach_within m phase n window (within_search m phase n window p h) h

-- and where n events fit, if there are any, they can have come before the end
pub earliest_arrival-below : (m : Stream) (phase n window : ℕ) → 0 < n → n ≤ arrivals m phase window → earliest_arrival m phase n < window
unfolding arrivals
earliest_arrival-below m phase n window one h =
    let passes = greatest_to-passes (λ k. ltb (earliest_arrival m phase k) window) (window + m.jitter) (omega arith) in
    let fits = ltb-true (earliest_arrival m phase (arrivals m phase window)) window passes in
    omega (arith, earliest_arrival-mono m phase n (arrivals m phase window) h)

-- a window of no length has none
pub arrivals-zero : (m : Stream) (phase : ℕ) → arrivals m phase 0 ≡ 0
arrivals-zero m phase =
    elim (cases_lt 0 (arrivals m phase 0)) [
      | inl some ↦ absurd (let h : earliest_arrival m phase 1 < 0 = earliest_arrival-below m phase 1 0 (omega arith) some in omega arith)
      | inr none ↦ omega arith
    ]

-- a longer window has no fewer
pub arrivals-mono : (m : Stream) (phase v w : ℕ) → v ≤ w → arrivals m phase v ≤ arrivals m phase w
arrivals-mono m phase v w h =
    at_least_from_below _ _ (λ n one below.
    let early = earliest_arrival-below m phase n v one below in
    let near = arrivals-le m phase v in
    arrivals-reach_within m phase n w (omega arith) (omega arith))

-- nor has one of wider intervals
pub arrivals-wider : (m n : Stream) (phase phase' w : ℕ) → m.jitter ≤ n.jitter → n.period ≤ m.period → n.distance ≤ m.distance → phase' + m.jitter ≤ phase + n.jitter → arrivals m phase w ≤ arrivals n phase' w
arrivals-wider m n phase phase' w jitter period near less =
    at_least_from_below _ _ (λ k one below.
    let early = earliest_arrival-below m phase k w one below in
    let sooner = earliest_arrival-wider m n phase phase' k period near less in
    arrivals-reach_within n phase' k w (omega (arith, arrivals-le m phase w)) (omega arith))

-- at phase 0 it is the most events of any window
pub arrivals-plain : (m : Stream) (w : ℕ) → arrivals m 0 w ≡ stream_eta_plus m w
unfolding arrivals stream_eta_plus
arrivals-plain m w =
    let same : (λ n. earliest_arrival m 0 n) ≡ (λ n. stream_delta_minus m n) = λ i n. earliest_arrival-plain m n i in
    ap (λ (f : ℕ → ℕ). greatest_to (λ n. ltb (f n) w) (w + m.jitter)) same

pub arrivals-le_plain : (m : Stream) (phase w : ℕ) → arrivals m phase w ≤ stream_eta_plus m w
unfolding stream_eta_plus
arrivals-le_plain m phase w =
    at_least_from_below _ _ (λ n one below.
    let early = earliest_arrival-below m phase n w one below in
    let sooner = earliest_arrival-ge m phase n in
    greatest_to-greatest _ _ n (omega (arith, arrivals-le m phase w)) (lt-ltb _ _ (omega arith)))

-- ---- as the code computes them

earliest_arrival-suc_below : (m : Stream) (phase gaps window : ℕ) → 0 < window → gaps * m.distance < window → gaps * m.period < window + m.jitter - phase → earliest_arrival m phase (suc gaps) < window
unfolding earliest_arrival
earliest_arrival-suc_below m phase gaps window one d p = omega arith

earliest_arrival-suc_parts : (m : Stream) (phase gaps window : ℕ) → earliest_arrival m phase (suc gaps) < window → (gaps * m.distance < window) × (gaps * m.period < window + m.jitter - phase)
unfolding earliest_arrival
earliest_arrival-suc_parts m phase gaps window h = (omega arith, omega arith)

pub arrivals-le_period : (m : Stream) (phase window : ℕ) → IsStream m → arrivals m phase window ≤ by_period m phase window
arrivals-le_period m phase window p = at_least_from_below _ _ (at_most m phase window p)
  where
    at_most : (m : Stream) (phase window : ℕ) → IsStream m → (n : ℕ) → 0 < n → n ≤ arrivals m phase window → n ≤ by_period m phase window
    at_most m phase window p zero one h = omega arith
    at_most m phase window p (suc g) one h =
        let parts = earliest_arrival-suc_parts m phase g window (earliest_arrival-below m phase (suc g) window one h) in
        lt-div_ceil (window + m.jitter - phase) m.period g p parts.1

arrivals-le_distance_at : (m : Stream) (phase window n : ℕ) → 0 < m.distance → 0 < n → n ≤ arrivals m phase window → n ≤ div_ceil window m.distance
arrivals-le_distance_at m phase window zero d one h = omega arith
arrivals-le_distance_at m phase window (suc g) d one h =
    let parts = earliest_arrival-suc_parts m phase g window (earliest_arrival-below m phase (suc g) window one h) in
    lt-div_ceil window m.distance g d parts.0

pub arrivals-le_distance : (m : Stream) (phase window : ℕ) → 0 < m.distance → arrivals m phase window ≤ div_ceil window m.distance
arrivals-le_distance m phase window d = at_least_from_below _ _ (λ n one h. arrivals-le_distance_at m phase window n d one h)

arrivals-ge_at : (m : Stream) (phase window n : ℕ) → IsStream m → 0 < window → 0 < n → n ≤ by_period m phase window → ((g : ℕ) → g < n → g * m.distance < window) → n ≤ arrivals m phase window
arrivals-ge_at m phase window zero p some one h d = omega arith
arrivals-ge_at m phase window (suc g) p some one h d =
    arrivals-reach m phase (suc g) window p (earliest_arrival-suc_below m phase g window some (d g (omega arith)) (lt-div_ceil_below (window + m.jitter - phase) m.period g p (omega arith)))

pub arrivals-by_period : (m : Stream) (phase window : ℕ) → IsStream m → 0 < window → m.distance ≡ 0 → arrivals m phase window ≡ by_period m phase window
arrivals-by_period m phase window p some none =
    let above : by_period m phase window ≤ arrivals m phase window = at_least_from_below _ _ (λ n one h. arrivals-ge_at m phase window n p some one h (λ g less. let zero_apart : g * m.distance ≡ 0 = rw none (omega arith) in omega arith)) in
    omega (arith, arrivals-le_period m phase window p)

pub arrivals-by_both : (m : Stream) (phase window : ℕ) → IsStream m → 0 < window → (m.distance ≡ 0 → ⊥) → arrivals m phase window ≡ min (by_period m phase window) (div_ceil window m.distance)
arrivals-by_both m phase window p some apart =
    let d : 0 < m.distance = omega arith in
    let most : ℕ = min (by_period m phase window) (div_ceil window m.distance) in
    let above : most ≤ arrivals m phase window =
    at_least_from_below _ _ (λ n one h.
    arrivals-ge_at m phase window n p some one (le_trans h (min-le_left _ _))
    (λ g less. lt-div_ceil_below window m.distance g d (let far : n ≤ div_ceil window m.distance = le_trans h (min-le_right _ _) in omega arith)))
    in
    let below : arrivals m phase window ≤ most = le-min (arrivals-le_period m phase window p) (arrivals-le_distance m phase window d) in
    omega arith

-- one event at most needs no distance
pub arrivals-by_few : (m : Stream) (phase window : ℕ) → IsStream m → 0 < window → by_period m phase window ≤ 1 → arrivals m phase window ≡ by_period m phase window
arrivals-by_few m phase window p some few =
    let above : by_period m phase window ≤ arrivals m phase window = at_least_from_below _ _ (λ n one h. arrivals-ge_at m phase window n p some one h (λ g less. let zero_gaps : g ≡ 0 = omega arith in rw zero_gaps (omega arith))) in
    omega (arith, arrivals-le_period m phase window p)

pub by_period-none : (m : Stream) (phase window : ℕ) → IsStream m → window + m.jitter ≤ phase → by_period m phase window ≡ 0
by_period-none m phase window p h =
    let e : window + m.jitter - phase ≡ 0 = omega arith in
    let least = div_ceil-le 0 m.period 0 p (omega arith) in
    rw e (omega (arith, least))

pub by_period-one : (m : Stream) (phase window : ℕ) → IsStream m → phase < window + m.jitter → window + m.jitter - phase ≤ m.period → by_period m phase window ≡ 1
by_period-one m phase window p some h =
    let most = div_ceil-le (window + m.jitter - phase) m.period 1 p (omega arith) in
    let least = lt-div_ceil (window + m.jitter - phase) m.period 0 p (omega arith) in
    omega (arith, most, least)

pub by_period-le : (m : Stream) (phase window : ℕ) → IsStream m → by_period m phase window ≤ window + m.jitter
by_period-le m phase window p = omega (arith, div_ceil-le_self (window + m.jitter - phase) m.period p)
