-- Where tasks move from above a task to below it, and keep none waiting, its bound by clocks doesn't rise: others ask for no more.
use Rattle.std.proofs.Common.{◌≡◌, ℕ, ◌+◌, ◌≤◌, ◌==◌, Bool, true, List, [], ◌∷◌, map, Option, Some, None, inl, inr, arith}
use Rattle.std.specs.Prelude.{filter}
use Rattle.std.specs.List.{range_with_len}
use Rattle.std.proofs.lemmas.Bool.{cases_Bool}
use Rattle.std.proofs.Math.Nat.{le_trans}
use Rattle.cpa_units.specs.declared.bound.Bound.{Bound}
use Rattle.cpa_units.specs.declared.bound.Bound.TheVariants.{Within, Overload}
use Rattle.cpa_units.specs.Bounds.{IsAtMost, bound_plus, bound_times}
use Rattle.cpa_units.proofs.BoundLaws.{IsAtMost_refl, IsAtMost_trans, bound_plus-mono}
use Rattle.cpa_events.specs.declared.stream.Stream.{Stream}
use Rattle.cpa_events.specs.Events.{Model}
use Rattle.cpa_events.proofs.EventLaws.{IsNoDenser_refl}
use Rattle.cpa_window.specs.declared.rivals.Rival.{Rival}
use Rattle.cpa_window.specs.Rivals.{events_in, work_in}
use Rattle.cpa_phase.specs.declared.placed.Placed.{Placed}
use Rattle.cpa_phase.specs.Streams.{work_from}
use Rattle.cpa_phase.specs.Clocks.{clock_work, most_of}
use Rattle.cpa_phase.proofs.WorkLaws.{most_of-le, le-most_of}
use Rattle.cpa_offset.specs.Offsets.{others}
use Rattle.cpa_offset.proofs.BoundLaws.{offset_bound-grows, no_denser_itself}
use Rattle.cpa_offset.proofs.ApartLaws.{apart_bound-grows}
use Rattle.cpa_clock.specs.declared.anchor.Anchor.{Anchor}
use Rattle.cpa_clock.specs.Anchors.{Anchors, placed_at}
use Rattle.cpa_clock.specs.Rivals.{ClockedRival, with_stream, with_input, with_rival, streams_on, with_free_stream, with_free_input, with_free_rival, free_of, unless_known, other_clocks_work, rest_of}
use Rattle.cpa_clock.specs.Clocked.{preemptive_at, clocked_preemptive_bound}
use Rattle.cpa_clock.proofs.CoverLaws.{work_from-cons}
use Rattle.cpa_clock.proofs.SumLaws.{sum-grows}

-- ---- one rival more asks for no less, and the same rival before more asks for no less

-- the work of streams before some, and before others that bring no less
abbrev IsMore : List Placed → List Placed → List Placed → List Placed → ℕ → ℕ → Type 0
IsMore ps qs with_ps with_qs x w = (work_from with_ps x w ≤ work_from with_qs x w) × (work_from qs x w ≤ work_from with_qs x w)

stream-more : (clock worst : ℕ) (o : Option Anchor) (st : Stream) (ps qs : List Placed) (x w : ℕ) → work_from ps x w ≤ work_from qs x w → IsMore ps qs (with_stream clock worst o st ps) (with_stream clock worst o st qs) x w
stream-more clock worst None st ps qs x w h = (h, omega arith)
stream-more clock worst (Some a) st ps qs x w h =
    elim (cases_Bool (a.clock == clock)) [
      | inl here ↦ rw here (omega (arith, h, work_from-cons (placed_at st a worst) ps x w, work_from-cons (placed_at st a worst) qs x w), omega (arith, work_from-cons (placed_at st a worst) qs x w))
      | inr other ↦ rw other (h, omega arith)
    ]

input-more : (clock worst : ℕ) (anchors : Anchors) (first : ℕ) (m : Model) (ps qs : List Placed) (x w : ℕ) → work_from ps x w ≤ work_from qs x w → IsMore ps qs (with_input clock worst anchors first m ps) (with_input clock worst anchors first m qs) x w
input-more clock worst anchors first [] ps qs x w h = (h, omega arith)
input-more clock worst anchors first (st ∷ m) ps qs x w h =
    let rest = input-more clock worst anchors (first + 1) m ps qs x w h in
    let here = stream-more clock worst (anchors first) st (with_input clock worst anchors (first + 1) m ps) (with_input clock worst anchors (first + 1) m qs) x w rest.0 in
    (here.0, le_trans rest.1 here.1)

rival-more : (clock worst : ℕ) (anchors : Anchors) (m : Option Model) (ps qs : List Placed) (x w : ℕ) → work_from ps x w ≤ work_from qs x w → IsMore ps qs (with_rival clock worst anchors m ps) (with_rival clock worst anchors m qs) x w
rival-more clock worst anchors None ps qs x w h = (h, omega arith)
rival-more clock worst anchors (Some m) ps qs x w h = input-more clock worst anchors 0 m ps qs x w h

plus-over : (a b : Bound) → IsAtMost b (bound_plus a b)
plus-over (Within a) (Within b) = omega arith
plus-over (Within a) Overload = tt
plus-over Overload (Within b) = tt
plus-over Overload Overload = tt

-- the same of those on no clock
abbrev IsFreeMore : List Rival → List Rival → List Rival → ℕ → Type 0
IsFreeMore qs with_ps with_qs w = IsAtMost (work_in with_ps w) (work_in with_qs w) × IsAtMost (work_in qs w) (work_in with_qs w)

free_stream-more : (worst : ℕ) (o : Option Anchor) (st : Stream) (ps qs : List Rival) (w : ℕ) → IsAtMost (work_in ps w) (work_in qs w) → IsFreeMore qs (with_free_stream worst o st ps) (with_free_stream worst o st qs) w
free_stream-more worst None st ps qs w h =
    let own = bound_times (events_in (Some (st ∷ [])) w) worst in
    (bound_plus-mono own own (work_in ps w) (work_in qs w) (IsAtMost_refl own) h, plus-over own (work_in qs w))
free_stream-more worst (Some a) st ps qs w h = (h, IsAtMost_refl (work_in qs w))

free_input-more : (worst : ℕ) (anchors : Anchors) (first : ℕ) (m : Model) (ps qs : List Rival) (w : ℕ) → IsAtMost (work_in ps w) (work_in qs w) → IsFreeMore qs (with_free_input worst anchors first m ps) (with_free_input worst anchors first m qs) w
free_input-more worst anchors first [] ps qs w h = (h, IsAtMost_refl (work_in qs w))
free_input-more worst anchors first (st ∷ m) ps qs w h =
    let rest = free_input-more worst anchors (first + 1) m ps qs w h in
    let here = free_stream-more worst (anchors first) st (with_free_input worst anchors (first + 1) m ps) (with_free_input worst anchors (first + 1) m qs) w rest.0 in
    (here.0, IsAtMost_trans (work_in qs w) (work_in (with_free_input worst anchors (first + 1) m qs) w) (work_in (with_free_input worst anchors first (st ∷ m) qs) w) rest.1 here.1)

free_rival-more : (worst : ℕ) (anchors : Anchors) (m : Option Model) (ps qs : List Rival) (w : ℕ) → IsAtMost (work_in ps w) (work_in qs w) → IsFreeMore qs (with_free_rival worst anchors m ps) (with_free_rival worst anchors m qs) w
free_rival-more worst anchors None ps qs w h =
    let own = bound_times (events_in None w) worst in
    (bound_plus-mono own own (work_in ps w) (work_in qs w) (IsAtMost_refl own) h, plus-over own (work_in qs w))
free_rival-more worst anchors (Some m) ps qs w h = free_input-more worst anchors 0 m ps qs w h

-- ---- those that pass, of which some pass no more

module _ (fewer above : ℕ → Bool) (moved : (j : ℕ) → fewer j ≡ true → above j ≡ true) (f : ℕ → ClockedRival) where
  abbrev those : (ℕ → Bool) → List ℕ → List ClockedRival
  those p js = map f (filter p js)

  streams-fewer : (clock x w : ℕ) (js : List ℕ) → work_from (streams_on clock (those fewer js)) x w ≤ work_from (streams_on clock (those above js)) x w
  streams-fewer clock x w [] = omega arith
  streams-fewer clock x w (j ∷ js) =
      let rest = streams-fewer clock x w js in
      let it = rival-more clock (f j).worst (f j).anchors (f j).model (streams_on clock (those fewer js)) (streams_on clock (those above js)) x w rest in
      elim (cases_Bool (fewer j)) [
        | inl high ↦ rw (high, moved j high) it.0
        | inr low ↦ elim (cases_Bool (above j)) [
          | inl higher ↦ rw (low, higher) (le_trans rest it.1)
          | inr lower ↦ rw (low, lower) rest
        ]
      ]

  free-fewer : (w : ℕ) (js : List ℕ) → IsAtMost (work_in (free_of (those fewer js)) w) (work_in (free_of (those above js)) w)
  free-fewer w [] = omega arith
  free-fewer w (j ∷ js) =
      let rest = free-fewer w js in
      let it = free_rival-more (f j).worst (f j).anchors (f j).model (free_of (those fewer js)) (free_of (those above js)) w rest in
      elim (cases_Bool (fewer j)) [
        | inl high ↦ rw (high, moved j high) it.0
        | inr low ↦ elim (cases_Bool (above j)) [
          | inl higher ↦ rw (low, higher) (IsAtMost_trans (work_in (free_of (those fewer js)) w) (work_in (free_of (those above js)) w) (work_in (free_of (f j ∷ those above js)) w) rest it.1)
          | inr lower ↦ rw (low, lower) rest
        ]
      ]

  clock-fewer : (clock cycle w : ℕ) (js : List ℕ) → clock_work (streams_on clock (those fewer js)) cycle w ≤ clock_work (streams_on clock (those above js)) cycle w
  clock-fewer clock cycle w js =
      let more : ℕ → ℕ = λ x. work_from (streams_on clock (those above js)) x w in
      most_of-le (λ x. work_from (streams_on clock (those fewer js)) x w) cycle (most_of more cycle)
      (λ x some le. le_trans (streams-fewer clock x w js) (le-most_of more cycle x some le))

  known-fewer : (known : Option ℕ) (c m n : ℕ) → m ≤ n → unless_known known c m ≤ unless_known known c n
  known-fewer None c m n h = h
  known-fewer (Some k) c m n h = elim (cases_Bool (k == c)) [ inl here ↦ rw here (omega arith) | inr other ↦ rw other h ]

  rest-fewer : (known : Option ℕ) (cycle : ℕ → ℕ) (count w : ℕ) (js : List ℕ) → IsAtMost (rest_of known (those fewer js) cycle count w) (rest_of known (those above js) cycle count w)
  rest-fewer known cycle count w js =
      bound_plus-mono (Within (other_clocks_work known (those fewer js) cycle count w)) (Within (other_clocks_work known (those above js) cycle count w)) (work_in (free_of (those fewer js)) w) (work_in (free_of (those above js)) w)
      (sum-grows (λ c. unless_known known c (clock_work (streams_on c (those fewer js)) (cycle c) w)) (λ c. unless_known known c (clock_work (streams_on c (those above js)) (cycle c) w)) (range_with_len 0 count)
      (λ c. known-fewer known c (clock_work (streams_on c (those fewer js)) (cycle c) w) (clock_work (streams_on c (those above js)) (cycle c) w) (clock-fewer c (cycle c) w js)))
      (free-fewer w js)

  others-fewer : (clock : ℕ) (cycle : ℕ → ℕ) (count x w : ℕ) (js : List ℕ)
      → IsAtMost (others (streams_on clock (those fewer js)) (rest_of (Some clock) (those fewer js) cycle count) x w) (others (streams_on clock (those above js)) (rest_of (Some clock) (those above js) cycle count) x w)
  others-fewer clock cycle count x w js =
      bound_plus-mono (Within (work_from (streams_on clock (those fewer js)) x w)) (Within (work_from (streams_on clock (those above js)) x w)) (rest_of (Some clock) (those fewer js) cycle count w) (rest_of (Some clock) (those above js) cycle count w)
      (streams-fewer clock x w js) (rest-fewer (Some clock) cycle count w js)

  module _ (worst blocking : ℕ) (cycle : ℕ → ℕ) (count limit : ℕ) (js : List ℕ) where
    apart-fewer : (own : Model) → IsAtMost (preemptive_at None own worst blocking (those fewer js) cycle count limit) (preemptive_at None own worst blocking (those above js) cycle count limit)
    apart-fewer own =
        apart_bound-grows own own worst worst blocking blocking (rest_of None (those fewer js) cycle count) (rest_of None (those above js) cycle count) limit (IsNoDenser_refl own) (omega arith) (omega arith) (λ w. rest-fewer None cycle count w js)

    one-fewer : (o : Option Anchor) (m : Stream) → IsAtMost (preemptive_at o (m ∷ []) worst blocking (those fewer js) cycle count limit) (preemptive_at o (m ∷ []) worst blocking (those above js) cycle count limit)
    one-fewer None m = apart-fewer (m ∷ [])
    one-fewer (Some a) m =
        offset_bound-grows (placed_at m a worst) (placed_at m a worst) blocking blocking (streams_on a.clock (those fewer js)) (streams_on a.clock (those above js)) (rest_of (Some a.clock) (those fewer js) cycle count) (rest_of (Some a.clock) (those above js) cycle count) limit (cycle a.clock)
        (no_denser_itself (placed_at m a worst)) (omega arith) (λ x w. others-fewer a.clock cycle count x w js)

    -- the bound doesn't rise
    pub clocked-fewer : (own : Model) (anchors : Anchors) → IsAtMost (clocked_preemptive_bound own anchors worst blocking (those fewer js) cycle count limit) (clocked_preemptive_bound own anchors worst blocking (those above js) cycle count limit)
    clocked-fewer [] anchors = apart-fewer []
    clocked-fewer (m ∷ []) anchors = one-fewer (anchors 0) m
    clocked-fewer (m ∷ n ∷ ms) anchors = apart-fewer (m ∷ n ∷ ms)
