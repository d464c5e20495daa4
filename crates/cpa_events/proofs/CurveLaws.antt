-- The curves of a stream by its fields, as the code computes them.
use Rattle.std.proofs.Common.{◌≡◌, ℕ, zero, suc, ◌+◌, ◌-◌, ◌*◌, ◌<◌, ◌≤◌, max, min, refl, ◌∙◌, arith}
use Rattle.std.proofs.Math.Nat.{le_trans, le-min, min-le_left, min-le_right}
use Rattle.std.specs.Int.{div_ceil}
use Rattle.cpa_units.proofs.NumberLaws.{lt-div_ceil, lt-div_ceil_below}
use Rattle.cpa_events.specs.declared.stream.Stream.{Stream}
use Rattle.cpa_events.specs.Streams.{stream_delta_minus, stream_delta_plus, stream_eta_plus, eta_by_quotients, IsStream}
use Rattle.cpa_events.proofs.StreamLaws.{stream_eta_plus-reaches, stream_eta_plus-zero, stream_delta_minus-below, at_least_from_below}

-- a window of at least one tick has room for one more than `gaps` events exactly where both products are below
stream_delta_minus-suc_below : (m : Stream) (gaps window : ℕ) → gaps * m.distance < window → gaps * m.period < window + m.jitter → stream_delta_minus m (suc gaps) < window
unfolding stream_delta_minus
stream_delta_minus-suc_below m gaps window d p = omega arith

stream_delta_minus-suc_parts : (m : Stream) (gaps window : ℕ) → stream_delta_minus m (suc gaps) < window → (gaps * m.distance < window) × (gaps * m.period < window + m.jitter)
unfolding stream_delta_minus
stream_delta_minus-suc_parts m gaps window h = (omega arith, omega arith)

module _ (period jitter : ℕ) (regular : 0 < period) where
  model : ℕ → Stream
  model d = record { period = period; jitter = jitter; distance = d }

  quotients-ge : (d window n : ℕ) → 0 < n → n ≤ stream_eta_plus (model d) window → n ≤ eta_by_quotients (model d) window
  unfolding model
  quotients-ge d zero n one h = absurd (omega (arith, stream_eta_plus-zero (model d)))
  quotients-ge d (suc w) zero one h = omega arith
  quotients-ge zero (suc w) (suc g) one h =
      let parts = stream_delta_minus-suc_parts (model 0) g (suc w) (stream_delta_minus-below (model 0) (suc g) (suc w) one h) in
      lt-div_ceil (suc w + jitter) period g regular parts.1
  quotients-ge (suc d) (suc w) (suc g) one h =
      let parts = stream_delta_minus-suc_parts (model (suc d)) g (suc w) (stream_delta_minus-below (model (suc d)) (suc g) (suc w) one h) in
      le-min (lt-div_ceil (suc w + jitter) period g regular parts.1) (lt-div_ceil (suc w) (suc d) g (omega arith) parts.0)

  quotients-le : (d window n : ℕ) → 0 < n → n ≤ eta_by_quotients (model d) window → n ≤ stream_eta_plus (model d) window
  unfolding model
  quotients-le d zero n one h = absurd (omega arith)
  quotients-le d (suc w) zero one h = omega arith
  quotients-le zero (suc w) (suc g) one h =
      let by_period = lt-div_ceil_below (suc w + jitter) period g regular h in
      stream_eta_plus-reaches (model 0) (suc g) (suc w) regular (stream_delta_minus-suc_below (model 0) g (suc w) (omega arith) by_period)
  quotients-le (suc d) (suc w) (suc g) one h =
      let by_period = lt-div_ceil_below (suc w + jitter) period g regular (le_trans h (min-le_left _ _)) in
      let by_distance = lt-div_ceil_below (suc w) (suc d) g (omega arith) (le_trans h (min-le_right _ _)) in
      stream_eta_plus-reaches (model (suc d)) (suc g) (suc w) regular (stream_delta_minus-suc_below (model (suc d)) g (suc w) by_distance by_period)

-- the two quotients give the same number
pub stream_eta_plus-by_quotients : (m : Stream) (window : ℕ) → IsStream m → stream_eta_plus m window ≡ eta_by_quotients m window
unfolding model
stream_eta_plus-by_quotients m window p =
    let below : stream_eta_plus m window ≤ eta_by_quotients m window = at_least_from_below _ _ (quotients-ge m.period m.jitter p m.distance window) in
    let above : eta_by_quotients m window ≤ stream_eta_plus m window = at_least_from_below _ _ (quotients-le m.period m.jitter p m.distance window) in
    omega arith

-- the same, as code computes it
pub stream_eta_plus-by_period : (m : Stream) (window : ℕ) → IsStream m → 0 < window → m.distance ≡ 0 → stream_eta_plus m window ≡ div_ceil (window + m.jitter) m.period
stream_eta_plus-by_period m zero p one d = absurd (omega arith)
stream_eta_plus-by_period m (suc w) p one d = stream_eta_plus-by_quotients m (suc w) p ∙ rw (d, eta_by_quotients) refl

stream_eta_plus-by_both_at : (m : Stream) (window gap : ℕ) → IsStream m → 0 < window → m.distance ≡ suc gap → stream_eta_plus m window ≡ min (div_ceil (window + m.jitter) m.period) (div_ceil window m.distance)
stream_eta_plus-by_both_at m zero gap p one d = absurd (omega arith)
stream_eta_plus-by_both_at m (suc w) gap p one d = stream_eta_plus-by_quotients m (suc w) p ∙ rw (d, eta_by_quotients) refl

pub stream_eta_plus-by_both : (m : Stream) (window : ℕ) → IsStream m → 0 < window → (m.distance ≡ 0 → ⊥) → stream_eta_plus m window ≡ min (div_ceil (window + m.jitter) m.period) (div_ceil window m.distance)
stream_eta_plus-by_both m window p one d = stream_eta_plus-by_both_at m window (m.distance - 1) p one (omega arith)

pub stream_delta_minus-by_gaps : (m : Stream) (n : ℕ) → 0 < n → stream_delta_minus m n ≡ max ((n - 1) * m.distance) ((n - 1) * m.period - m.jitter)
unfolding stream_delta_minus
stream_delta_minus-by_gaps m zero one = absurd (omega arith)
stream_delta_minus-by_gaps m (suc gaps) one = let e : suc gaps - 1 ≡ gaps = omega arith in rw e refl

pub stream_delta_plus-few : (m : Stream) (n : ℕ) → n < 2 → stream_delta_plus m n ≡ 0
unfolding stream_delta_plus
stream_delta_plus-few m zero h = refl
stream_delta_plus-few m (suc zero) h = refl
stream_delta_plus-few m (suc (suc n)) h = absurd (omega arith)

pub stream_delta_plus-many : (m : Stream) (n : ℕ) → 2 ≤ n → stream_delta_plus m n ≡ (n - 1) * m.period + m.jitter
unfolding stream_delta_plus
stream_delta_plus-many m zero h = absurd (omega arith)
stream_delta_plus-many m (suc zero) h = absurd (omega arith)
stream_delta_plus-many m (suc (suc n)) h = let e : suc (suc n) - 1 ≡ suc n = omega arith in rw e refl
