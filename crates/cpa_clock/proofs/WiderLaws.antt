-- Wider intervals: the lists by clock ask for no less.
use Rattle.std.proofs.Common.{◌≡◌, ℕ, zero, suc, ◌+◌, ◌*◌, ◌≤◌, ◌==◌, List, [], ◌∷◌, Option, Some, None, refl, inl, inr, arith}
use Rattle.std.specs.List.{sum_by, range_with_len}
use Rattle.std.proofs.lemmas.Bool.{cases_Bool}
use Rattle.std.proofs.lemmas.List.Sums.{sum_by-cons}
use Rattle.cpa_units.specs.declared.bound.Bound.TheVariants.{Within}
use Rattle.cpa_units.specs.Bounds.{IsAtMost, bound_times}
use Rattle.cpa_units.proofs.BoundLaws.{IsAtMost_trans, IsAtMost-from_numbers, zero_at_most, bound_plus-mono}
use Rattle.cpa_events.specs.declared.stream.Stream.{Stream}
use Rattle.cpa_events.specs.Streams.{IsStreamNoDenser}
use Rattle.cpa_events.specs.Events.{Model, IsNoDenser, eta_plus}
use Rattle.cpa_events.proofs.EventLaws.{eta_plus-zero}
use Rattle.cpa_window.specs.declared.rivals.Rival.{Rival}
use Rattle.cpa_window.specs.Rivals.{events_in, work_in, AreNoHeavier}
use Rattle.cpa_window.proofs.RivalLaws.{work_in-mono}
use Rattle.cpa_phase.specs.declared.placed.Placed.{Placed}
use Rattle.cpa_phase.specs.Clocks.{clock_work}
use Rattle.cpa_phase.specs.Growth.{IsPlacedNoDenser, ArePlacedNoDenser}
use Rattle.cpa_phase.specs.Phases.{phase_of, arrivals}
use Rattle.cpa_phase.specs.Streams.{work_from}
use Rattle.cpa_phase.proofs.PhaseLaws.{arrivals-zero}
use Rattle.cpa_phase.proofs.WorkLaws.{clock_work-denser, most_of-le}
use Rattle.cpa_offset.specs.Offsets.{others}
use Rattle.cpa_offset.proofs.BoundLaws.{others-grow}
use Rattle.cpa_clock.specs.Anchors.{Anchors, placed_at}
use Rattle.cpa_clock.specs.declared.anchor.Anchor.{Anchor}
use Rattle.cpa_clock.specs.Rivals.{ClockedRival, with_stream, with_input, with_rival, streams_on, with_free_stream, with_free_input, with_free_rival, free_of, joint_of, unless_known, other_clocks_work, rest_of}
use Rattle.cpa_clock.specs.Wider.{IsWider, IsWiderOn, AreWider, IsInputWider, AreRivalsWider}
use Rattle.cpa_clock.proofs.SumLaws.{plus-parts, plus-within, sum-grows}
use Rattle.cpa_clock.proofs.CoverLaws.{work_from-cons}

pub placed-wider : (a b : Anchor) (m n : Stream) (worst worst' : ℕ) → IsWider a b m n → worst ≤ worst' → IsPlacedNoDenser (placed_at m a worst) (placed_at n b worst')
placed-wider a b m n worst worst' h k = record { period = h.placed.period; sooner = h.placed.sooner; later = h.placed.later; distance = h.placed.distance; worst = k }

-- ---- the streams of one clock

stream-wider : (clock : ℕ) (o p : Option Anchor) (m n : Stream) (worst worst' : ℕ) (ps qs : List Placed) → IsWiderOn o p m n → worst ≤ worst' → ArePlacedNoDenser ps qs → ArePlacedNoDenser (with_stream clock worst o m ps) (with_stream clock worst' p n qs)
stream-wider clock None None m n worst worst' ps qs h k l = l
stream-wider clock None (Some b) m n worst worst' ps qs h k l = absurd h
stream-wider clock (Some a) None m n worst worst' ps qs h k l = absurd h
stream-wider clock (Some a) (Some b) m n worst worst' ps qs h k l =
    let same : b.clock ≡ a.clock = h.clock in
    rw same
    (elim (cases_Bool (a.clock == clock)) [
      | inl here ↦ rw here (placed-wider a b m n worst worst' h k, l)
      | inr other ↦ rw other l
    ])

input-wider : (clock : ℕ) (a b : Anchors) (first : ℕ) (m n : Model) (worst worst' : ℕ) (ps qs : List Placed) → AreWider a b first m n → worst ≤ worst' → ArePlacedNoDenser ps qs → ArePlacedNoDenser (with_input clock worst a first m ps) (with_input clock worst' b first n qs)
input-wider clock a b first [] [] worst worst' ps qs h k l = l
input-wider clock a b first [] (n ∷ ns) worst worst' ps qs h k l = absurd h
input-wider clock a b first (m ∷ ms) [] worst worst' ps qs h k l = absurd h
input-wider clock a b first (m ∷ ms) (n ∷ ns) worst worst' ps qs h k l =
    stream-wider clock (a first) (b first) m n worst worst' (with_input clock worst a (first + 1) ms ps) (with_input clock worst' b (first + 1) ns qs) h.0 k (input-wider clock a b (first + 1) ms ns worst worst' ps qs h.1 k l)

-- ---- and those on none

stream-free : (o p : Option Anchor) (m n : Stream) (worst worst' : ℕ) (ps qs : List Rival) → IsWiderOn o p m n → worst ≤ worst' → AreNoHeavier ps qs → AreNoHeavier (with_free_stream worst o m ps) (with_free_stream worst' p n qs)
stream-free None None m n worst worst' ps qs h k l = (record { model = (h, tt); worst = k; slot = refl; bound = tt }, l)
stream-free None (Some b) m n worst worst' ps qs h k l = absurd h
stream-free (Some a) None m n worst worst' ps qs h k l = absurd h
stream-free (Some a) (Some b) m n worst worst' ps qs h k l = l

input-free : (a b : Anchors) (first : ℕ) (m n : Model) (worst worst' : ℕ) (ps qs : List Rival) → AreWider a b first m n → worst ≤ worst' → AreNoHeavier ps qs → AreNoHeavier (with_free_input worst a first m ps) (with_free_input worst' b first n qs)
input-free a b first [] [] worst worst' ps qs h k l = l
input-free a b first [] (n ∷ ns) worst worst' ps qs h k l = absurd h
input-free a b first (m ∷ ms) [] worst worst' ps qs h k l = absurd h
input-free a b first (m ∷ ms) (n ∷ ns) worst worst' ps qs h k l =
    stream-free (a first) (b first) m n worst worst' (with_free_input worst a (first + 1) ms ps) (with_free_input worst' b (first + 1) ns qs) h.0 k (input-free a b (first + 1) ms ns worst worst' ps qs h.1 k l)

-- ---- rivals: where the second ones' work in some ticks is a number, all their inputs are bounded

pub record AreBoundedWider (rs ss : List ClockedRival) : Type 0 where
  pub on : (clock : ℕ) → ArePlacedNoDenser (streams_on clock rs) (streams_on clock ss)
  pub off : AreNoHeavier (free_of rs) (free_of ss)

-- a number of ticks that rivals ask for bounds what those behind an input ask for
behind-stream : (p : Option Anchor) (n : Stream) (worst w e : ℕ) (qs : List Rival) → IsAtMost (work_in (with_free_stream worst p n qs) w) (Within e) → (f : ℕ) × IsAtMost (work_in qs w) (Within f)
behind-stream None n worst w e qs h =
    let parts = plus-parts (bound_times (events_in (Some (n ∷ [])) w) worst) (work_in qs w) e h in
    (parts.1, parts.3)
behind-stream (Some b) n worst w e qs h = (e, h)

behind-input : (b : Anchors) (first : ℕ) (n : Model) (worst w e : ℕ) (qs : List Rival) → IsAtMost (work_in (with_free_input worst b first n qs) w) (Within e) → (f : ℕ) × IsAtMost (work_in qs w) (Within f)
behind-input b first [] worst w e qs h = (e, h)
behind-input b first (n ∷ ns) worst w e qs h =
    let here = behind-stream (b first) n worst w e (with_free_input worst b (first + 1) ns qs) h in
    behind-input b (first + 1) ns worst w here.0 qs here.1

rival-wider : (m n : Option Model) (a b : Anchors) (worst worst' w e : ℕ) (rs ss : List ClockedRival) → IsInputWider a b m n → worst ≤ worst' → IsAtMost (work_in (with_free_rival worst' b n (free_of ss)) (suc w)) (Within e)
    → ((f : ℕ) → IsAtMost (work_in (free_of ss) (suc w)) (Within f) → AreBoundedWider rs ss)
    → ((clock : ℕ) → ArePlacedNoDenser (with_rival clock worst a m (streams_on clock rs)) (with_rival clock worst' b n (streams_on clock ss))) × AreNoHeavier (with_free_rival worst a m (free_of rs)) (with_free_rival worst' b n (free_of ss))
rival-wider m None a b worst worst' w e rs ss h k number later = absurd number
rival-wider None (Some n) a b worst worst' w e rs ss h k number later = absurd h
rival-wider (Some m) (Some n) a b worst worst' w e rs ss h k number later =
    let behind = behind-input b 0 n worst' (suc w) e (free_of ss) number in
    let rest = later behind.0 behind.1 in (
      λ clock. input-wider clock a b 0 m n worst worst' (streams_on clock rs) (streams_on clock ss) h k (rest.on clock),
      input-free a b 0 m n worst worst' (free_of rs) (free_of ss) h k rest.off,
    )

rivals-wider : (rs ss : List ClockedRival) (w e : ℕ) → AreRivalsWider rs ss → IsAtMost (work_in (free_of ss) (suc w)) (Within e) → AreBoundedWider rs ss
rivals-wider [] ss w e h number = record { on = λ clock. tt; off = tt }
rivals-wider (r ∷ rs) [] w e h number = absurd h
rivals-wider (r ∷ rs) (s ∷ ss) w e h number =
    let here = rival-wider r.model s.model r.anchors s.anchors r.worst s.worst w e rs ss h.0.input h.0.worst number (λ f k. rivals-wider rs ss w f h.1 k) in
    record { on = here.0; off = here.1 }

-- ---- what they ask for

unless_known-mono : (known : Option ℕ) (c m n : ℕ) → m ≤ n → unless_known known c m ≤ unless_known known c n
unless_known-mono None c m n h = h
unless_known-mono (Some k) c m n h =
    elim (cases_Bool (k == c)) [ inl here ↦ rw here (omega arith) | inr other ↦ rw other h ]

joint-wider : (known : Option ℕ) (rs ss : List ClockedRival) → AreBoundedWider rs ss → ArePlacedNoDenser (joint_of known rs) (joint_of known ss)
joint-wider None rs ss h = tt
joint-wider (Some k) rs ss h = h.on k

rest-wider : (known : Option ℕ) (rs ss : List ClockedRival) (cycle : ℕ → ℕ) (count w : ℕ) → AreBoundedWider rs ss → IsAtMost (rest_of known rs cycle count w) (rest_of known ss cycle count w)
rest-wider known rs ss cycle count w h =
    bound_plus-mono (Within (other_clocks_work known rs cycle count w)) (Within (other_clocks_work known ss cycle count w)) (work_in (free_of rs) w) (work_in (free_of ss) w)
    (sum-grows (λ c. unless_known known c (clock_work (streams_on c rs) (cycle c) w)) (λ c. unless_known known c (clock_work (streams_on c ss) (cycle c) w)) (range_with_len 0 count)
    (λ c. unless_known-mono known c (clock_work (streams_on c rs) (cycle c) w) (clock_work (streams_on c ss) (cycle c) w) (clock_work-denser (streams_on c rs) (streams_on c ss) (cycle c) w (h.on c))))
    (work_in-mono (free_of rs) (free_of ss) w h.off)

-- in no time others ask for nothing
free-zero : (rs : List Rival) → IsAtMost (work_in rs 0) (Within 0)
free-zero [] = omega arith
free-zero (r ∷ rs) = plus-within (bound_times (events_in r.model 0) r.worst) (work_in rs 0) 0 0 (one-zero r.model r.worst) (free-zero rs)
  where
    one-zero : (m : Option Model) (worst : ℕ) → IsAtMost (bound_times (events_in m 0) worst) (Within 0)
    one-zero None worst = omega arith
    one-zero (Some m) worst = let e : eta_plus m 0 * worst ≡ 0 = rw (eta_plus-zero m) (omega arith) in omega arith

work-zero : (ps : List Placed) (x : ℕ) → work_from ps x 0 ≤ 0
work-zero [] x = omega arith
work-zero (p ∷ ps) x =
    let one : arrivals p.stream (phase_of p.stream p.offset x) 0 * p.worst ≡ 0 = rw (arrivals-zero p.stream (phase_of p.stream p.offset x)) (omega arith) in
    omega (arith, one, work-zero ps x, work_from-cons p ps x 0)

clocks-zero : (known : Option ℕ) (rs : List ClockedRival) (cycle : ℕ → ℕ) (first many : ℕ) → sum_by (λ c. unless_known known c (clock_work (streams_on c rs) (cycle c) 0)) (range_with_len first many) ≤ 0
clocks-zero known rs cycle first zero = omega arith
clocks-zero known rs cycle first (suc many) =
    let none = most_of-le (λ z. work_from (streams_on first rs) z 0) (cycle first) 0 (λ z some le. work-zero (streams_on first rs) z) in
    let here = unless_known-mono known first (clock_work (streams_on first rs) (cycle first) 0) 0 none in
    let nothing : unless_known known first 0 ≤ 0 = unless-zero known first in
    omega (arith, here, nothing, clocks-zero known rs cycle (first + 1) many, sum_by-cons (λ c. unless_known known c (clock_work (streams_on c rs) (cycle c) 0)) first (range_with_len (first + 1) many))
  where
    unless-zero : (known : Option ℕ) (c : ℕ) → unless_known known c 0 ≤ 0
    unless-zero None c = omega arith
    unless-zero (Some k) c = elim (cases_Bool (k == c)) [ inl here ↦ rw here (omega arith) | inr other ↦ rw other (omega arith) ]

rest-zero : (known : Option ℕ) (rs : List ClockedRival) (cycle : ℕ → ℕ) (count : ℕ) → IsAtMost (rest_of known rs cycle count 0) (Within 0)
rest-zero known rs cycle count =
    plus-within (Within (other_clocks_work known rs cycle count 0)) (work_in (free_of rs) 0) 0 0 (clocks-zero known rs cycle 0 count) (free-zero (free_of rs))

module _ (rs ss : List ClockedRival) (cycle : ℕ → ℕ) (count : ℕ) (known : Option ℕ) (h : AreRivalsWider rs ss) where
  pub rest-grows : (w : ℕ) → IsAtMost (rest_of known rs cycle count w) (rest_of known ss cycle count w)
  rest-grows zero = IsAtMost_trans (rest_of known rs cycle count 0) (Within 0) (rest_of known ss cycle count 0) (rest-zero known rs cycle count) (zero_at_most (rest_of known ss cycle count 0))
  rest-grows (suc w) =
      IsAtMost-from_numbers (rest_of known rs cycle count (suc w)) (rest_of known ss cycle count (suc w)) (λ n e.
      let le : IsAtMost (rest_of known ss cycle count (suc w)) (Within n) = rw e (omega arith) in
      let parts = plus-parts (Within (other_clocks_work known ss cycle count (suc w))) (work_in (free_of ss) (suc w)) n le in
      IsAtMost_trans (rest_of known rs cycle count (suc w)) (rest_of known ss cycle count (suc w)) (Within n) (rest-wider known rs ss cycle count (suc w) (rivals-wider rs ss w parts.1 h parts.3)) le)

  -- others ask for no less
  pub others-wider : (x w : ℕ) → IsAtMost (others (joint_of known rs) (rest_of known rs cycle count) x w) (others (joint_of known ss) (rest_of known ss cycle count) x w)
  others-wider x zero =
      IsAtMost_trans (others (joint_of known rs) (rest_of known rs cycle count) x 0) (Within 0) (others (joint_of known ss) (rest_of known ss cycle count) x 0)
      (plus-within (Within (work_from (joint_of known rs) x 0)) (rest_of known rs cycle count 0) 0 0 (work-zero (joint_of known rs) x) (rest-zero known rs cycle count))
      (zero_at_most (others (joint_of known ss) (rest_of known ss cycle count) x 0))
  others-wider x (suc w) =
      IsAtMost-from_numbers (others (joint_of known rs) (rest_of known rs cycle count) x (suc w)) (others (joint_of known ss) (rest_of known ss cycle count) x (suc w)) (λ n e.
      let le : IsAtMost (others (joint_of known ss) (rest_of known ss cycle count) x (suc w)) (Within n) = rw e (omega arith) in
      let parts = plus-parts (Within (work_from (joint_of known ss) x (suc w))) (rest_of known ss cycle count (suc w)) n le in
      let more = plus-parts (Within (other_clocks_work known ss cycle count (suc w))) (work_in (free_of ss) (suc w)) parts.1 parts.3 in
      let wider = rivals-wider rs ss w more.1 h more.3 in
      IsAtMost_trans (others (joint_of known rs) (rest_of known rs cycle count) x (suc w)) (others (joint_of known ss) (rest_of known ss cycle count) x (suc w)) (Within n)
      (others-grow (joint_of known rs) (joint_of known ss) (rest_of known rs cycle count) (rest_of known ss cycle count) x (suc w) (joint-wider known rs ss wider) (rest-wider known rs ss cycle count (suc w) wider)) le)

-- ---- own jobs

pub wide-denser : (a b : Anchors) (first : ℕ) (m n : Model) → AreWider a b first m n → IsNoDenser m n
wide-denser a b first [] [] h = tt
wide-denser a b first [] (n ∷ ns) h = absurd h
wide-denser a b first (m ∷ ms) [] h = absurd h
wide-denser a b first (m ∷ ms) (n ∷ ns) h = (one (a first) (b first) h.0, wide-denser a b (first + 1) ms ns h.1)
  where
    one : (o p : Option Anchor) → IsWiderOn o p m n → IsStreamNoDenser m n
    one None None k = k
    one None (Some b) k = absurd k
    one (Some a) None k = absurd k
    one (Some a) (Some b) k = record { period = omega (arith, k.placed.period); jitter = omega (arith, k.placed.sooner, k.placed.later); distance = k.placed.distance }
