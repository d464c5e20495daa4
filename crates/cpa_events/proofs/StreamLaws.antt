-- The laws of one stream.
use Rattle.std.proofs.Common.{◌≡◌, ℕ, zero, suc, ◌+◌, ◌-◌, ◌*◌, ◌^◌, ◌<◌, ◌≤◌, ltb, refl, inl, inr, arith}
use Rattle.std.proofs.lemmas.Bool.{cases_lt, ltb-true, lt-ltb}
use Rattle.std.proofs.Math.Nat.{mul-le-mul, mul-le-mul_left, mul-le-mul_right, le_trans, le-max_left, le-max_right, max-le}
use Rattle.cpa_units.specs.declared.limits.TheConstants.{MAX_PERIOD}
use Rattle.cpa_units.proofs.SearchLaws.{greatest_to-le, greatest_to-passes, greatest_to-greatest}
use Rattle.cpa_events.specs.declared.stream.Stream.{Stream}
use Rattle.cpa_events.specs.Streams.{stream_delta_minus, stream_eta_plus, stream_after_response, IsStream, IsStreamInRange, IsStreamNoDenser}

-- ---- the least time of some events

pub stream_delta_minus-zero : (m : Stream) → stream_delta_minus m 0 ≡ 0
unfolding stream_delta_minus
stream_delta_minus-zero m = refl

-- one event takes no time
pub stream_delta_minus-one : (m : Stream) → stream_delta_minus m 1 ≡ 0
unfolding stream_delta_minus
stream_delta_minus-one m = omega arith

stream_delta_minus-mono_suc : (m : Stream) (a b : ℕ) → a ≤ b → stream_delta_minus m (suc a) ≤ stream_delta_minus m (suc b)
unfolding stream_delta_minus
stream_delta_minus-mono_suc m a b h =
    max-le
    (le_trans (mul-le-mul_right m.distance h) (le-max_left _ _))
    (let more : a * m.period ≤ b * m.period = mul-le-mul_right m.period h in
    let less : a * m.period - m.jitter ≤ b * m.period - m.jitter = omega arith in
    le_trans less (le-max_right _ _))

-- more events take no less time
pub stream_delta_minus-mono : (m : Stream) (a b : ℕ) → a ≤ b → stream_delta_minus m a ≤ stream_delta_minus m b
stream_delta_minus-mono m zero b h = omega (arith, stream_delta_minus-zero m)
stream_delta_minus-mono m (suc a) zero h = absurd (omega arith)
stream_delta_minus-mono m (suc a) (suc b) h = stream_delta_minus-mono_suc m a b (omega arith)

-- the room that it needs
pub stream_delta_minus-small : (m : Stream) (n : ℕ) → IsStreamInRange m → n ≤ 2 ^ 33 → stream_delta_minus m n ≤ 2 ^ 33 * MAX_PERIOD
unfolding stream_delta_minus
stream_delta_minus-small m zero r few = omega arith
stream_delta_minus-small m (suc gaps) r few =
    let near : gaps ≤ 2 ^ 33 = omega arith in
    let period : gaps * m.period ≤ 2 ^ 33 * MAX_PERIOD = mul-le-mul near r.period in
    let less : gaps * m.period - m.jitter ≤ 2 ^ 33 * MAX_PERIOD = omega arith in
    max-le (mul-le-mul near r.distance) less

-- a denser stream's events may come sooner
pub stream_delta_minus-denser : (m m' : Stream) (n : ℕ) → IsStreamNoDenser m m' → stream_delta_minus m' n ≤ stream_delta_minus m n
unfolding stream_delta_minus
stream_delta_minus-denser m m' zero d = omega arith
stream_delta_minus-denser m m' (suc gaps) d =
    max-le
    (le_trans (mul-le-mul_left gaps d.distance) (le-max_left _ _))
    (let less : gaps * m'.period ≤ gaps * m.period = mul-le-mul_left gaps d.period in
    let jitter : m.jitter ≤ m'.jitter = d.jitter in
    let sooner : gaps * m'.period - m'.jitter ≤ gaps * m.period - m.jitter = omega arith in
    le_trans sooner (le-max_right _ _))

-- ---- the most events of a window

stream_delta_minus-by_period : (m : Stream) (gaps : ℕ) → gaps * m.period - m.jitter ≤ stream_delta_minus m (suc gaps)
unfolding stream_delta_minus
stream_delta_minus-by_period m gaps = le-max_right _ _

-- so many events that fit are among those that the search looks at
within_search : (m : Stream) (n window : ℕ) → IsStream m → stream_delta_minus m n < window → n ≤ window + m.jitter
within_search m zero window p h = omega arith
within_search m (suc gaps) window p h =
    let far = stream_delta_minus-by_period m gaps in
    let long : gaps * 1 ≤ gaps * m.period = mul-le-mul_left gaps (omega arith) in
    omega arith

pub stream_eta_plus-le : (m : Stream) (window : ℕ) → stream_eta_plus m window ≤ window + m.jitter
unfolding stream_eta_plus
stream_eta_plus-le m window = greatest_to-le _ _

stream_eta_plus-reaches_within : (m : Stream) (n window : ℕ) → n ≤ window + m.jitter → stream_delta_minus m n < window → n ≤ stream_eta_plus m window
unfolding stream_eta_plus
stream_eta_plus-reaches_within m n window near h = greatest_to-greatest _ _ n near (lt-ltb _ _ h)

-- where the window is longer than the least time of n events, n events fit
pub stream_eta_plus-reaches : (m : Stream) (n window : ℕ) → IsStream m → stream_delta_minus m n < window → n ≤ stream_eta_plus m window
stream_eta_plus-reaches m n window p h = stream_eta_plus-reaches_within m n window (within_search m n window p h) h

-- and where n events fit, if there are any, the window is longer
pub stream_delta_minus-below : (m : Stream) (n window : ℕ) → 0 < n → n ≤ stream_eta_plus m window → stream_delta_minus m n < window
unfolding stream_eta_plus
stream_delta_minus-below m n window one h =
    let passes = greatest_to-passes (λ k. ltb (stream_delta_minus m k) window) (window + m.jitter) (omega arith) in
    let fits = ltb-true (stream_delta_minus m (stream_eta_plus m window)) window passes in
    omega (arith, stream_delta_minus-mono m n (stream_eta_plus m window) h)

-- a window of no length has no events
pub stream_eta_plus-zero : (m : Stream) → stream_eta_plus m 0 ≡ 0
stream_eta_plus-zero m =
    elim (cases_lt 0 (stream_eta_plus m 0)) [
      | inl some ↦ absurd (let h : stream_delta_minus m 1 < 0 = stream_delta_minus-below m 1 0 (omega arith) some in omega arith)
      | inr none ↦ omega arith
    ]

-- what is at least each n from 1 to a is at least a
pub at_least_from_below : (a b : ℕ) → ((n : ℕ) → 0 < n → n ≤ a → n ≤ b) → a ≤ b
at_least_from_below zero b h = omega arith
at_least_from_below (suc a) b h = h (suc a) (omega arith) (omega arith)

-- a longer window has at least as many events
pub stream_eta_plus-mono : (m : Stream) (v w : ℕ) → v ≤ w → stream_eta_plus m v ≤ stream_eta_plus m w
stream_eta_plus-mono m v w h =
    at_least_from_below _ _ (λ n one below.
    let early = stream_delta_minus-below m n v one below in
    let near = stream_eta_plus-le m v in
    stream_eta_plus-reaches_within m n w (omega arith) (omega arith))

-- a denser stream may have more events in a window
pub stream_eta_plus-denser : (m m' : Stream) (window : ℕ) → IsStreamNoDenser m m' → stream_eta_plus m window ≤ stream_eta_plus m' window
stream_eta_plus-denser m m' window d =
    at_least_from_below _ _ (λ n one below.
    let early = stream_delta_minus-below m n window one below in
    let sooner = stream_delta_minus-denser m m' n d in
    let near = stream_eta_plus-le m window in
    let jitter : m.jitter ≤ m'.jitter = d.jitter in
    stream_eta_plus-reaches_within m' n window (omega arith) (omega arith))

-- until one event more can come, no longer a window has more
pub stream_eta_plus-steady : (m : Stream) (v w : ℕ) → v ≤ w → w ≤ stream_delta_minus m (stream_eta_plus m v + 1) → stream_eta_plus m w ≡ stream_eta_plus m v
stream_eta_plus-steady m v w h k =
    elim (cases_lt (stream_eta_plus m v) (stream_eta_plus m w)) [
      | inl more ↦ absurd (let early = stream_delta_minus-below m (stream_eta_plus m v + 1) w (omega arith) (omega arith) in omega arith)
      | inr same ↦ omega (arith, stream_eta_plus-mono m v w h)
    ]

-- ---- denser streams, and what tasks send on

pub IsStreamNoDenser_refl : (m : Stream) → IsStreamNoDenser m m
IsStreamNoDenser_refl m = record { period = omega arith; jitter = omega arith; distance = omega arith }

-- what is sent on is denser where what comes in is, where the least execution is less and where the bound is greater
pub stream_after_response-denser : (m m' : Stream) (best best' bound bound' : ℕ) → IsStreamNoDenser m m' → best' ≤ best → bound ≤ bound' → IsStreamNoDenser (stream_after_response best bound m) (stream_after_response best' bound' m')
stream_after_response-denser m m' best best' bound bound' d b h =
    let jitter : m.jitter ≤ m'.jitter = d.jitter in
    let distance : m'.distance ≤ m.distance = d.distance in
    record {
      period = d.period;
      jitter = omega arith;
      distance = max-le (le_trans (let less : m'.distance - (bound' - best') ≤ m.distance - (bound - best) = omega arith in less) (le-max_left _ _)) (le_trans b (le-max_right _ _));
    }
