-- How far apart a task's completions are: what is known of them all, and not of each stream alone.
use Rattle.std.proofs.Common.{◌≡◌, ℕ, zero, suc, ◌+◌, ◌-◌, ◌*◌, ◌<◌, ◌≤◌, [], ◌∷◌, All, map, max, refl, ap, inl, inr, arith, add-one}
use Rattle.std.proofs.lemmas.Bool.{cases_lt}
use Rattle.std.proofs.Math.Nat.{mul-le-mul_right, mul-le-mul_left, le_trans, le-max_left, le-max_right, max-le}
use Rattle.cpa_events.specs.declared.stream.Stream.{Stream}
use Rattle.cpa_events.specs.Streams.{stream_delta_minus, stream_delta_plus, stream_eta_plus, stream_after_response, IsStream}
use Rattle.cpa_events.specs.Events.{Model, delta_minus, delta_plus, eta_plus, after_response, IsModel}
use Rattle.cpa_events.proofs.StreamLaws.{stream_delta_minus-below, stream_eta_plus-reaches}
use Rattle.cpa_events.proofs.EventLaws.{eta_plus-cons, delta_minus-room, delta_minus-least, first_of, rest_of}

shrinks : (d late g : ℕ) → suc g * (d - late) ≤ suc g * d - late
shrinks d late g =
    elim (cases_lt d late) [
      | inl less ↦ let none : d - late ≡ 0 = omega arith in rw none (omega arith)
      | inr more ↦
          let all : g * (d - late) ≤ g * d = mul-le-mul_left g (omega arith) in
          omega arith
    ]

either : (a b g w : ℕ) → g * a ≤ w → g * b ≤ w → g * max a b ≤ w
either a b g w h k =
    elim (cases_lt a b) [
      | inl less ↦ let e : max a b ≡ b = omega arith in rw e k
      | inr more ↦ let e : max a b ≡ a = omega arith in rw e h
    ]

-- the gaps of a stream's completions: by those of its arrivals, which may shrink by what responses differ, and by the least
-- execution
stream_gaps : (s : Stream) (best late g n w span : ℕ) → g ≤ n → n * best ≤ w → span - late ≤ w → stream_delta_minus s (suc g) ≤ span
    → stream_delta_minus (record { period = s.period; jitter = s.jitter + late; distance = max (s.distance - late) best }) (suc g) ≤ w
unfolding stream_delta_minus
stream_gaps s best late zero n w span few busy near far = omega arith
stream_gaps s best late (suc g) n w span few busy near far =
    let spaced : suc g * s.distance ≤ span = le_trans (le-max_left _ _) far in
    let periodic : suc g * s.period - s.jitter ≤ span = le_trans (le-max_right _ _) far in
    let executed : suc g * best ≤ w = le_trans (mul-le-mul_right best few) busy in
    let shrunk : suc g * (s.distance - late) ≤ w = le_trans (shrinks s.distance late g) (omega arith) in
    let wide : suc g * max (s.distance - late) best ≤ w = either (s.distance - late) best (suc g) w shrunk executed in
    max-le wide (omega arith)

module _ (best bound n w span : ℕ) (busy : n * best ≤ w) (near : span - (bound - best) ≤ w) where
  one_stream : (s : Stream) (k : ℕ) → IsStream s → k ≤ suc n → k ≤ stream_eta_plus s (span + 1) → k ≤ stream_eta_plus (stream_after_response best bound s) (w + 1)
  one_stream s zero p few h = omega arith
  one_stream s (suc g) p few h =
      let early = stream_delta_minus-below s (suc g) (span + 1) (omega arith) h in
      let gaps = stream_gaps s best (bound - best) g n w span (omega arith) busy near (omega arith) in
      stream_eta_plus-reaches (stream_after_response best bound s) (suc g) (w + 1) p (omega (arith, gaps))

  all_streams : (m : Model) (k : ℕ) → All IsStream m → k ≤ suc n → k ≤ eta_plus m (span + 1) → k ≤ eta_plus (after_response m best bound) (w + 1)
  unfolding eta_plus
  all_streams [] k each few h = h
  all_streams (s ∷ m) k each few h =
      let whole = eta_plus-cons s m (span + 1) in
      let sent = eta_plus-cons (stream_after_response best bound s) (after_response m best bound) (w + 1) in
      let p = first_of IsStream s m each in
      elim (cases_lt (stream_eta_plus s (span + 1)) k) [
        | inl part ↦
            let here = one_stream s (stream_eta_plus s (span + 1)) p (omega arith) (omega arith) in
            let rest = all_streams m (k - stream_eta_plus s (span + 1)) (rest_of IsStream s m each) (omega arith) (omega arith) in
            omega arith
        | inr full ↦ omega (arith, one_stream s k p few full)
      ]

-- completions are as far apart as arrivals, but for what responses differ, and as executions take; so far apart the model
-- of the completions lets them be
pub after_response-apart : (m : Model) (best bound n : ℕ) → IsModel m → delta_minus (after_response m best bound) (suc n) ≤ max (delta_minus m (suc n) - (bound - best)) (n * best)
after_response-apart m best bound n i =
    let span = delta_minus m (suc n) in
    let w = max (span - (bound - best)) (n * best) in
    delta_minus-least (after_response m best bound) (suc n) w
    (all_streams best bound n w span (le-max_right _ _) (le-max_left _ _) m (suc n) i.each (omega arith) (delta_minus-room m (suc n) i))

-- and no further apart than arrivals, but for what responses differ
pub delta_plus-one : (m : Model) → delta_plus m (0 + 1) ≡ 0
unfolding stream_delta_plus
delta_plus-one [] = refl
delta_plus-one (s ∷ m) = refl

stream_delta_plus-more : (s : Stream) (g : ℕ) → stream_delta_plus s (suc g + 1) ≡ suc g * s.period + s.jitter
unfolding stream_delta_plus
stream_delta_plus-more s g = rw add-one refl

pub after_response-near : (m : Model) (best bound g : ℕ) → IsModel m → delta_plus (after_response m best bound) (suc g + 1) ≡ delta_plus m (suc g + 1) + (bound - best)
after_response-near [] best bound g i = absurd (let some : 0 < 0 = i.some in omega arith)
after_response-near (s ∷ m) best bound g i =
    omega (arith, stream_delta_plus-more s g, stream_delta_plus-more (stream_after_response best bound s) g)

-- ---- the periods of what a task sends on are those of what it is sent
pub after_response-periods : (m : Model) (best bound : ℕ) → map (λ (s : Stream). s.period) (after_response m best bound) ≡ map (λ (s : Stream). s.period) m
after_response-periods [] best bound = refl
after_response-periods (s ∷ m) best bound = ap (λ periods. s.period ∷ periods) (after_response-periods m best bound)
