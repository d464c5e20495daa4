-- The laws by which all other crates know event models: none of them reads a model's streams.
use Rattle.std.proofs.Common.{◌≡◌, ℕ, zero, suc, ◌+◌, ◌-◌, ◌*◌, ◌^◌, ◌<◌, ◌≤◌, ltb, [], ◌∷◌, length, All, slice_index_or, take, max, refl, ap, ◌∙◌, inl, inr, arith}
use Rattle.std.proofs.lemmas.Bool.{cases_lt, ltb-true, lt-ltb}
use Rattle.std.proofs.lemmas.List.{length-map}
use Rattle.std.proofs.lemmas.List.Sums.{sum_by-cons, sum_by-le-sum_by, sum_by_more}
use Rattle.std.proofs.lemmas.List.Elements.{All-map}
use Rattle.std.proofs.Math.Nat.{mul-le-mul, le_trans, max-le}
use Rattle.cpa_units.specs.declared.limits.TheConstants.{MAX_EXECUTION, MAX_LIMIT, MAX_PERIOD}
use Rattle.cpa_units.specs.Numbers.{IsExecution}
use Rattle.cpa_units.proofs.SearchLaws.{greatest_to-le, greatest_to-passes, greatest_to-greatest}
use Rattle.cpa_events.specs.declared.stream.Stream.{Stream}
use Rattle.cpa_events.specs.declared.stream.TheConstants.{MAX_MODEL_JITTER}
use Rattle.cpa_events.specs.Streams.{stream_delta_minus, stream_eta_plus, stream_after_response, stream_later, IsStream, IsStreamInRange}
use Rattle.cpa_events.specs.Events.{Model, first_delta_minus, delta_minus, eta_plus, after_response, later, IsModel, IsNoDenser, IsModelInRange, HasJitterUpTo}
use Rattle.cpa_events.proofs.StreamLaws.{stream_delta_minus-zero, stream_delta_minus-one, stream_delta_minus-below, stream_delta_minus-denser, stream_eta_plus-le, stream_eta_plus-zero, stream_eta_plus-mono, stream_eta_plus-denser, stream_eta_plus-reaches, IsStreamNoDenser_refl, stream_after_response-denser}

-- ---- the most events of a window

eta_plus-none : (window : ℕ) → eta_plus [] window ≡ 0
unfolding eta_plus
eta_plus-none window = refl

pub eta_plus-cons : (s : Stream) (m : Model) (window : ℕ) → eta_plus (s ∷ m) window ≡ stream_eta_plus s window + eta_plus m window
unfolding eta_plus
eta_plus-cons s m window = sum_by-cons (λ r. stream_eta_plus r window) s m

-- a longer window has at least as many events
pub eta_plus-mono : (m : Model) (v w : ℕ) → v ≤ w → eta_plus m v ≤ eta_plus m w
unfolding eta_plus
eta_plus-mono m v w h = sum_by-le-sum_by (λ s. stream_eta_plus s v) (λ s. stream_eta_plus s w) m (λ s. stream_eta_plus-mono s v w h)

-- a window of no length has no events
pub eta_plus-zero : (m : Model) → eta_plus m 0 ≡ 0
eta_plus-zero [] = eta_plus-none 0
eta_plus-zero (s ∷ m) = omega (arith, eta_plus-cons s m 0, stream_eta_plus-zero s, eta_plus-zero m)

-- a denser model may have more events in a window
pub eta_plus-denser : (m m' : Model) (window : ℕ) → IsNoDenser m m' → eta_plus m window ≤ eta_plus m' window
eta_plus-denser [] [] window d = omega arith
eta_plus-denser [] (t ∷ n) window d = absurd d
eta_plus-denser (s ∷ m) [] window d = absurd d
eta_plus-denser (s ∷ m) (t ∷ n) window d =
    omega (arith, eta_plus-cons s m window, eta_plus-cons t n window, stream_eta_plus-denser s t window d.0, eta_plus-denser m n window d.1)

-- what holds of each stream of a list holds of the first, and of each of the rest
pub first_of : (P : Stream → Type 0) (s : Stream) (m : Model) → All P (s ∷ m) → P s
first_of P s m each = each 0 s (omega arith)

pub rest_of : (P : Stream → Type 0) (s : Stream) (m : Model) → All P (s ∷ m) → All P m
rest_of P s m each = λ k d less. each (suc k) d (omega arith)

-- what holds of each stream holds of one that was looked up
pub found_at : (P : Stream → Type 0) (m : Model) (k : ℕ) (s : Stream) → All P m → k < length m → s ≡ slice_index_or m k s → P s
found_at P m k s each less same = rw same (each k s less)

-- of streams that are steady so long, one more leaves them so
pub steady_more : (m : Model) (k : ℕ) (d : Stream) (v w : ℕ) → k < length m → eta_plus (take k m) w ≡ eta_plus (take k m) v → stream_eta_plus (slice_index_or m k d) w ≡ stream_eta_plus (slice_index_or m k d) v → eta_plus (take (k + 1) m) w ≡ eta_plus (take (k + 1) m) v
unfolding eta_plus
steady_more m k d v w less before here =
    let longer = sum_by_more (λ s. stream_eta_plus s w) m k d less in
    let shorter = sum_by_more (λ s. stream_eta_plus s v) m k d less in
    omega arith

-- the greatest number of events, by the greatest jitter
pub eta_plus-le : (m : Model) (window : ℕ) → All IsStreamInRange m → eta_plus m window ≤ length m * (window + MAX_MODEL_JITTER)
eta_plus-le [] window each = omega (arith, eta_plus-none window)
eta_plus-le (s ∷ m) window each =
    let here = stream_eta_plus-le s window in
    let jitter : s.jitter ≤ MAX_MODEL_JITTER = (first_of IsStreamInRange s m each).jitter in
    let rest = eta_plus-le m window (rest_of IsStreamInRange s m each) in
    omega (arith, eta_plus-cons s m window)

-- ---- the least time of some events

delta_minus-le_first : (m : Model) (n : ℕ) → delta_minus m n ≤ first_delta_minus m n
unfolding delta_minus
delta_minus-le_first m n = greatest_to-le _ _

-- a window without room for n events is no longer, up to the first stream's time
delta_minus-ge : (m : Model) (n w : ℕ) → w ≤ first_delta_minus m n → eta_plus m w < n → w ≤ delta_minus m n
unfolding delta_minus
delta_minus-ge m n w near few = greatest_to-greatest (λ v. ltb (eta_plus m v) n) (first_delta_minus m n) w near (lt-ltb (eta_plus m w) n few)

delta_minus-few : (m : Model) (n : ℕ) → 0 < delta_minus m n → eta_plus m (delta_minus m n) < n
unfolding delta_minus
delta_minus-few m n some = ltb-true (eta_plus m (delta_minus m n)) n (greatest_to-passes (λ v. ltb (eta_plus m v) n) (first_delta_minus m n) some)

-- n events come within their least time
room_at : (m : Model) (n : ℕ) → (delta_minus m n ≡ first_delta_minus m n → n ≤ eta_plus m (delta_minus m n + 1)) → n ≤ eta_plus m (delta_minus m n + 1)
room_at m n last =
    elim (cases_lt (delta_minus m n) (first_delta_minus m n)) [
      | inl sooner ↦ elim (cases_lt (eta_plus m (delta_minus m n + 1)) n) [
        | inl few ↦ absurd (let longer = delta_minus-ge m n (delta_minus m n + 1) (omega arith) few in omega arith)
        | inr room ↦ room
      ]
      | inr there ↦ last (omega (arith, delta_minus-le_first m n))
    ]

pub delta_minus-least : (m : Model) (n w : ℕ) → n ≤ eta_plus m (w + 1) → delta_minus m n ≤ w
delta_minus-least m n w h =
    elim (cases_lt w (delta_minus m n)) [
      | inl less ↦ absurd (omega (arith, delta_minus-few m n (omega arith), eta_plus-mono m (w + 1) (delta_minus m n) (omega arith)))
      | inr more ↦ more
    ]

-- each stream alone brings n events by then
first_reaches : (m : Model) (n : ℕ) → IsModel m → n ≤ eta_plus m (first_delta_minus m n + 1)
first_reaches [] n i = absurd (let some : 0 < 0 = i.some in omega arith)
first_reaches (s ∷ m) n i =
    omega (arith, eta_plus-cons s m (stream_delta_minus s n + 1), stream_eta_plus-reaches s n (stream_delta_minus s n + 1) (first_of IsStream s m i.each) (omega arith))

pub delta_minus-room : (m : Model) (n : ℕ) → IsModel m → n ≤ eta_plus m (delta_minus m n + 1)
delta_minus-room m n i = room_at m n (λ e. rw e (first_reaches m n i))

-- each stream alone brings n events by its own least time
pub each_reaches : (m : Model) (n k : ℕ) (d : Stream) → All IsStream m → k < length m → n ≤ eta_plus m (stream_delta_minus (slice_index_or m k d) n + 1)
each_reaches [] n k d each less = absurd (omega arith)
each_reaches (s ∷ m) n zero d each less =
    omega (arith, eta_plus-cons s m (stream_delta_minus s n + 1), stream_eta_plus-reaches s n (stream_delta_minus s n + 1) (first_of IsStream s m each) (omega arith))
each_reaches (s ∷ m) n (suc k) d each less =
    omega (arith, eta_plus-cons s m (stream_delta_minus (slice_index_or m k d) n + 1), each_reaches m n k d (rest_of IsStream s m each) (omega arith))

-- where n events fit, if there are any, the window is longer than their least time
pub delta_minus-below : (m : Model) (n window : ℕ) → 0 < n → n ≤ eta_plus m window → delta_minus m n < window
delta_minus-below m n zero one h = absurd (omega (arith, eta_plus-zero m))
delta_minus-below m n (suc w) one h =
    let same : w + 1 ≡ suc w = omega arith in
    omega (arith, delta_minus-least m n w (rw same h))

-- and where the window is longer, they fit
pub eta_plus-reaches : (m : Model) (n window : ℕ) → IsModel m → delta_minus m n < window → n ≤ eta_plus m window
eta_plus-reaches m n window i h = omega (arith, delta_minus-room m n i, eta_plus-mono m (delta_minus m n + 1) window (omega arith))

first_denser : (m m' : Model) (n : ℕ) → IsNoDenser m m' → first_delta_minus m' n ≤ first_delta_minus m n
first_denser [] [] n d = omega arith
first_denser [] (t ∷ m') n d = absurd d
first_denser (s ∷ m) [] n d = absurd d
first_denser (s ∷ m) (t ∷ m') n d = stream_delta_minus-denser s t n d.0

-- a denser model's events may come sooner
pub delta_minus-denser : (m m' : Model) (n : ℕ) → IsNoDenser m m' → delta_minus m' n ≤ delta_minus m n
delta_minus-denser m m' n d =
    elim (cases_lt (delta_minus m n) (first_delta_minus m n)) [
      | inl sooner ↦
          let room = room_at m n (λ e. absurd (omega arith)) in
          delta_minus-least m' n (delta_minus m n) (le_trans room (eta_plus-denser m m' (delta_minus m n + 1) d))
      | inr there ↦ omega (arith, delta_minus-le_first m' n, first_denser m m' n d)
    ]

-- one event takes no time
pub delta_minus-one : (m : Model) → delta_minus m 1 ≡ 0
delta_minus-one [] = omega (arith, delta_minus-le_first [] 1)
delta_minus-one (s ∷ m) = omega (arith, delta_minus-le_first (s ∷ m) 1, stream_delta_minus-one s)

-- each window of at least a tick has an event
pub eta_plus-one : (m : Model) (window : ℕ) → IsModel m → 0 < window → 1 ≤ eta_plus m window
eta_plus-one m window i h = eta_plus-reaches m 1 window i (omega (arith, delta_minus-one m))

-- a time whose window has room, and before which none has, is the least
pub delta_minus-is : (m : Model) (n w : ℕ) → IsModel m → n ≤ eta_plus m (w + 1) → ((v : ℕ) → v < w → eta_plus m (v + 1) < n) → delta_minus m n ≡ w
delta_minus-is m n w i room none =
    elim (cases_lt (delta_minus m n) w) [
      | inl sooner ↦ absurd (omega (arith, none (delta_minus m n) sooner, delta_minus-room m n i))
      | inr there ↦ omega (arith, delta_minus-least m n w room)
    ]

-- ---- one stream

pub eta_plus-of_one : (s : Stream) (window : ℕ) → eta_plus (s ∷ []) window ≡ stream_eta_plus s window
eta_plus-of_one s window = omega (arith, eta_plus-cons s [] window, eta_plus-none window)

only_one : (P : Stream → Type 0) (s : Stream) → P s → All P (s ∷ [])
only_one P s p zero d less = p
only_one P s p (suc k) d less = absurd (omega arith)

pub one-is_model : (s : Stream) → IsStream s → IsModel (s ∷ [])
one-is_model s p = record { some = omega arith; each = only_one IsStream s p }

before_of_one : (s : Stream) (n v : ℕ) → v < stream_delta_minus s n → eta_plus (s ∷ []) (v + 1) < n
before_of_one s zero v less = absurd (omega (arith, stream_delta_minus-zero s))
before_of_one s (suc n) v less =
    elim (cases_lt (stream_eta_plus s (v + 1)) (suc n)) [
      | inl few ↦ omega (arith, eta_plus-of_one s (v + 1))
      | inr many ↦ absurd (omega (arith, stream_delta_minus-below s (suc n) (v + 1) (omega arith) many))
    ]

pub delta_minus-of_one : (s : Stream) (n : ℕ) → IsStream s → delta_minus (s ∷ []) n ≡ stream_delta_minus s n
delta_minus-of_one s n p =
    delta_minus-is (s ∷ []) n (stream_delta_minus s n) (one-is_model s p)
    (omega (arith, eta_plus-of_one s (stream_delta_minus s n + 1), stream_eta_plus-reaches s n (stream_delta_minus s n + 1) p (omega arith)))
    (before_of_one s n)

-- ---- what is in range

pub in_range-is_model : (m : Model) → IsModelInRange m → IsModel m
in_range-is_model m r = record { some = r.some; each = λ k d less. (r.each k d less).regular }

pub one-in_range : (s : Stream) → IsStreamInRange s → IsModelInRange (s ∷ [])
one-in_range s r = record { some = omega arith; few = omega arith; each = only_one IsStreamInRange s r }

pub one-jitter : (s : Stream) (most : ℕ) → s.jitter ≤ most → HasJitterUpTo (s ∷ []) most
one-jitter s most h = only_one (λ r. r.jitter ≤ most) s h

-- the events of a window at the greatest numbers, and their work: the room that sums of them need
pub eta_plus-few : (m : Model) (window : ℕ) → IsModelInRange m → window ≤ 1000000000 → eta_plus m window ≤ 2 ^ 38
eta_plus-few m window r short =
    let le = eta_plus-le m window r.each in
    let most : length m * (window + MAX_MODEL_JITTER) ≤ 32 * 2 ^ 33 =
    let wide : window + MAX_MODEL_JITTER ≤ 2 ^ 33 = omega arith in mul-le-mul r.few wide in
    omega arith

pub eta_plus-work : (m : Model) (window worst : ℕ) → IsModelInRange m → window ≤ 1000000000 → worst ≤ MAX_EXECUTION → eta_plus m window * worst ≤ 2 ^ 62
eta_plus-work m window worst r short small =
    let little : worst ≤ 2 ^ 24 = omega arith in
    mul-le-mul (eta_plus-few m window r short) little

-- ---- denser models, and what tasks send on

pub IsNoDenser_refl : (m : Model) → IsNoDenser m m
IsNoDenser_refl [] = tt
IsNoDenser_refl (s ∷ m) = (IsStreamNoDenser_refl s, IsNoDenser_refl m)

pub after_response-is_model : (m : Model) (best bound : ℕ) → IsModel m → IsModel (after_response m best bound)
after_response-is_model m best bound i = record { some = rw length-map i.some; each = All-map IsStream (stream_after_response best bound) m i.each }

in_range-after : (best bound : ℕ) (s : Stream) → IsStreamInRange s → IsExecution best → bound ≤ MAX_LIMIT → s.jitter ≤ MAX_MODEL_JITTER - bound → IsStreamInRange (stream_after_response best bound s)
in_range-after best bound s r some short room =
    let p : 0 < s.period = r.regular in
    let distance : s.distance - (bound - best) ≤ MAX_PERIOD = omega (arith, r.distance) in
    record { regular = p; period = r.period; jitter = omega (arith, some.some); distance = max-le distance (omega (arith, some.small)) }

-- what is sent on is in range where there is room for that
pub after_response-in_range : (m : Model) (best bound : ℕ) → IsModelInRange m → IsExecution best → bound ≤ MAX_LIMIT → HasJitterUpTo m (MAX_MODEL_JITTER - bound) → IsModelInRange (after_response m best bound)
after_response-in_range m best bound r some short room =
    record {
      some = rw length-map r.some;
      few = rw length-map r.few;
      each = All-map IsStreamInRange (stream_after_response best bound) m (λ k d less. in_range-after best bound (slice_index_or m k d) (r.each k d less) some short (room k d less));
    }

-- a response adds no more jitter than its bound
pub after_response-jitter : (m : Model) (best bound most : ℕ) → HasJitterUpTo m most → HasJitterUpTo (after_response m best bound) (most + bound)
after_response-jitter m best bound most h =
    All-map (λ s. s.jitter ≤ most + bound) (stream_after_response best bound) m (λ k d less. omega (arith, h k d less))

-- what is sent on is denser where what comes in is, where the least execution is less and where the bound is greater
pub after_response-denser : (m m' : Model) (best best' bound bound' : ℕ) → IsNoDenser m m' → best' ≤ best → bound ≤ bound' → IsNoDenser (after_response m best bound) (after_response m' best' bound')
after_response-denser [] [] best best' bound bound' d b h = tt
after_response-denser [] (t ∷ n) best best' bound bound' d b h = absurd d
after_response-denser (s ∷ m) [] best best' bound bound' d b h = absurd d
after_response-denser (s ∷ m) (t ∷ n) best best' bound bound' d b h =
    (stream_after_response-denser s t best best' bound bound' d.0 b h, after_response-denser m n best best' bound bound' d.1 b h)

pub jitter-weaken : (m : Model) (most more : ℕ) → HasJitterUpTo m most → most ≤ more → HasJitterUpTo m more
jitter-weaken m most more h le = λ k d less. omega (arith, h k d less)

-- ---- several tasks in a row

stream-is : (s t : Stream) → s.period ≡ t.period → s.jitter ≡ t.jitter → s.distance ≡ t.distance → s ≡ t
stream-is s t p j d =
    let made : ℕ → ℕ → ℕ → Stream = λ a b c. record { period = a; jitter = b; distance = c } in
    ap (λ a. made a s.jitter s.distance) p ∙ (ap (λ b. made t.period b s.distance) j ∙ ap (λ c. made t.period t.jitter c) d)

-- after none
pub later-none : (m : Model) → later m 0 0 ≡ m
later-none [] = refl
later-none (s ∷ m) = ap (λ t. t ∷ later m 0 0) (stream-is (stream_later 0 0 s) s refl (omega arith) (omega arith)) ∙ ap (λ n. s ∷ n) (later-none m)

-- a task before them
pub later-response : (m : Model) (best bound late least : ℕ) → later (after_response m best bound) late least ≡ later m (late + (bound - best)) (max least (best - late))
later-response [] best bound late least = refl
later-response (s ∷ m) best bound late least =
    let first : stream_later late least (stream_after_response best bound s) ≡ stream_later (late + (bound - best)) (max least (best - late)) s = stream-is _ _ refl (omega arith) (omega arith) in
    ap (λ t. t ∷ later (after_response m best bound) late least) first ∙ ap (λ n. stream_later (late + (bound - best)) (max least (best - late)) s ∷ n) (later-response m best bound late least)
