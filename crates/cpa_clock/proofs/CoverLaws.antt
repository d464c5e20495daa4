-- No more work comes than is counted: whatever the moment, the events that inputs allow bring no more than the streams of each clock,
-- as they come from that moment on, and those on none.
use Rattle.std.proofs.Common.{◌≡◌, ℕ, zero, suc, ◌+◌, ◌*◌, ◌<◌, ◌≤◌, ◌==◌, if◌then◌else◌, List, [], ◌∷◌, map, Option, Some, None, refl, inl, inr, arith}
use Rattle.std.specs.List.{sum_by, range_with_len, AllByRecursion}
use Rattle.std.proofs.lemmas.Bool.{cases_Bool, eqb-true, eq-eqb}
use Rattle.std.proofs.lemmas.List.Sums.{sum_by-cons}
use Rattle.std.proofs.Math.Nat.{mul-le-mul_right}
use Rattle.cpa_units.specs.declared.bound.Bound.TheVariants.{Within}
use Rattle.cpa_units.specs.Bounds.{IsAtMost, bound_times}
use Rattle.cpa_events.specs.declared.stream.Stream.{Stream}
use Rattle.cpa_events.specs.Events.{Model, eta_plus}
use Rattle.cpa_events.proofs.EventLaws.{eta_plus-of_one}
use Rattle.cpa_window.specs.declared.rivals.Rival.{Rival}
use Rattle.cpa_window.specs.Rivals.{events_in, work_in}
use Rattle.cpa_phase.specs.declared.placed.Placed.{Placed}
use Rattle.cpa_phase.specs.declared.phased.Phased.{Phased}
use Rattle.cpa_phase.specs.Phases.{phase_of, arrivals}
use Rattle.cpa_phase.specs.Streams.{phased_from, work_from}
use Rattle.cpa_phase.specs.Clocks.{clock_work}
use Rattle.cpa_phase.proofs.PhaseLaws.{arrivals-mono, arrivals-plain}
use Rattle.cpa_phase.proofs.WorkLaws.{le-most_of}
use Rattle.cpa_offset.specs.Offsets.{others}
use Rattle.cpa_clock.specs.Anchors.{Anchors, Moment, placed_at, phase_on, arrivals_from}
use Rattle.cpa_clock.specs.declared.anchor.Anchor.{Anchor}
use Rattle.cpa_clock.specs.Rivals.{ClockedRival, with_stream, with_input, with_rival, streams_on, with_free_stream, with_free_input, with_free_rival, free_of, joint_of, unless_known, other_clocks_work, rest_of}
use Rattle.cpa_clock.specs.Wider.{AreClocksBelow}
use Rattle.cpa_clock.specs.Laws.{IsAllowed, IsKnownRival}
use Rattle.cpa_clock.proofs.SumLaws.{plus-parts, range-grows, range-more, range-once}

pub arrivals_from-mono : (moment : Moment) (anchors : Anchors) (first : ℕ) (m : Model) (v w : ℕ) → v ≤ w → arrivals_from moment anchors first m v ≤ arrivals_from moment anchors first m w
arrivals_from-mono moment anchors first [] v w h = omega arith
arrivals_from-mono moment anchors first (st ∷ m) v w h = omega (arith, arrivals-mono st (phase_on moment (anchors first) st) v w h, arrivals_from-mono moment anchors (first + 1) m v w h)

pub work_from-cons : (p : Placed) (ps : List Placed) (x w : ℕ) → work_from (p ∷ ps) x w ≡ arrivals p.stream (phase_of p.stream p.offset x) w * p.worst + work_from ps x w
work_from-cons p ps x w = sum_by-cons (λ (s : Phased). arrivals s.stream s.phase w * s.worst) (phased_from x p) (map (phased_from x) ps)

module _ (moment : Moment) (count w : ℕ) where
  -- the work of lists of streams by clock, each clock from where the moment is on it
  by_clocks : (ℕ → List Placed) → ℕ
  by_clocks lists = sum_by (λ c. work_from (lists c) (moment c) w) (range_with_len 0 count)

  -- one stream more
  record Covered (n worst : ℕ) (frees : List Rival) (lists more : ℕ → List Placed) (e : ℕ) : Type 0 where
    free : ℕ
    within : IsAtMost (work_in frees w) (Within free)
    all : n * worst + free + sum_by (λ c. work_from (lists c) (moment c) w) (range_with_len 0 count) ≤ e + sum_by (λ c. work_from (more c) (moment c) w) (range_with_len 0 count)

  covered-stream : (o : Option Anchor) (st : Stream) (worst : ℕ) (frees : List Rival) (lists : ℕ → List Placed) (e : ℕ) → ((a : Anchor) → o ≡ Some a → a.clock < count) → IsAtMost (work_in (with_free_stream worst o st frees) w) (Within e)
      → Covered (arrivals st (phase_on moment o st) w) worst frees lists (λ c. with_stream c worst o st (lists c)) e
  covered-stream None st worst frees lists e below h =
      let parts = plus-parts (bound_times (events_in (Some (st ∷ [])) w) worst) (work_in frees w) e h in
      let one : eta_plus (st ∷ []) w * worst ≤ parts.0 = parts.2 in
      let same : arrivals st 0 w ≡ eta_plus (st ∷ []) w = omega (arith, arrivals-plain st w, eta_plus-of_one st w) in
      let here : arrivals st 0 w * worst ≤ parts.0 = rw same one in
      record { free = parts.1; within = parts.3; all = omega (arith, here, parts.4) }
  covered-stream (Some a) st worst frees lists e below h =
      let f : ℕ → ℕ = λ c. work_from (lists c) (moment c) w in
      let g : ℕ → ℕ = λ c. work_from (with_stream c worst (Some a) st (lists c)) (moment c) w in
      let n : ℕ = arrivals st (phase_of st a.offset (moment a.clock)) w * worst in
      let here : n + work_from (lists a.clock) (moment a.clock) w ≤ work_from (with_stream a.clock worst (Some a) st (lists a.clock)) (moment a.clock) w =
      rw (eq-eqb a.clock a.clock refl) (omega (arith, work_from-cons (placed_at st a worst) (lists a.clock) (moment a.clock) w))
      in
      let all = range-more f g n 0 count a.clock (λ c. grows c) here (omega arith) (omega (arith, below a refl)) in
      record { free = e; within = h; all = omega (arith, all) }
    where
      grows : (c : ℕ) → work_from (lists c) (moment c) w ≤ work_from (with_stream c worst (Some a) st (lists c)) (moment c) w
      grows c =
          elim (cases_Bool (a.clock == c)) [
            | inl same ↦ rw same (omega (arith, work_from-cons (placed_at st a worst) (lists c) (moment c) w))
            | inr other ↦ rw other (omega arith)
          ]

  -- one input more
  covered-input : (anchors : Anchors) (first : ℕ) (m : Model) (worst : ℕ) (frees : List Rival) (lists : ℕ → List Placed) (e : ℕ) → AreClocksBelow count anchors → IsAtMost (work_in (with_free_input worst anchors first m frees) w) (Within e)
      → Covered (arrivals_from moment anchors first m w) worst frees lists (λ c. with_input c worst anchors first m (lists c)) e
  covered-input anchors first [] worst frees lists e below h = record { free = e; within = h; all = omega arith }
  covered-input anchors first (st ∷ m) worst frees lists e below h =
      let one =
      covered-stream (anchors first) st worst (with_free_input worst anchors (first + 1) m frees) (λ c. with_input c worst anchors (first + 1) m (lists c)) e (below first) h
      in
      let rest = covered-input anchors (first + 1) m worst frees lists one.free below one.within in
      let split : (arrivals st (phase_on moment (anchors first) st) w + arrivals_from moment anchors (first + 1) m w) * worst ≡ arrivals st (phase_on moment (anchors first) st) w * worst + arrivals_from moment anchors (first + 1) m w * worst = omega arith in
      record { free = rest.free; within = rest.within; all = omega (arith, split, one.all, rest.all) }

  -- one rival more, of which so many events are allowed
  covered-rival : (model : Option Model) (anchors : Anchors) (n worst : ℕ) (frees : List Rival) (lists : ℕ → List Placed) (e v : ℕ) → v ≡ w → 0 < v → AreClocksBelow count anchors → IsAllowed moment w model anchors n → IsAtMost (work_in (with_free_rival worst anchors model frees) v) (Within e)
      → Covered n worst frees lists (λ c. with_rival c worst anchors model (lists c)) e
  covered-rival None anchors n worst frees lists e zero same some below allowed h = absurd (omega arith)
  covered-rival None anchors n worst frees lists e (suc v) same some below allowed h = absurd h
  covered-rival (Some m) anchors n worst frees lists e v same some below allowed h =
      let h' = rw same at h in
      let all = covered-input anchors 0 m worst frees lists e below h' in
      let fewer : n * worst ≤ arrivals_from moment anchors 0 m w * worst = mul-le-mul_right worst allowed in
      record { free = all.free; within = all.within; all = omega (arith, fewer, all.all) }

  module _ (some : 0 < w) (rival : ℕ → ClockedRival) (most : ℕ → ℕ) where
    covered : (js : List ℕ) (e : ℕ) → AllByRecursion (λ j. IsKnownRival (rival j) moment count w (most j)) js → IsAtMost (work_in (free_of (map rival js)) w) (Within e)
        → sum_by (λ j. most j * (rival j).worst) js ≤ e + sum_by (λ c. work_from (streams_on c (map rival js)) (moment c) w) (range_with_len 0 count)
    covered [] e all h = omega arith
    covered (j ∷ js) e all h =
        let one =
        covered-rival (rival j).model (rival j).anchors (most j) (rival j).worst (free_of (map rival js)) (λ c. streams_on c (map rival js)) e w refl some all.0.clocks_known all.0.allowed h
        in
        omega (arith, one.all, covered js one.free all.1 one.within, sum_by-cons (λ j. most j * (rival j).worst) j js)

    module _ (cycle : ℕ → ℕ) (x : ℕ) (below : (c : ℕ) → c < count → (0 < moment c) × (moment c ≤ cycle c)) where
      -- the work of each clock is that of the one that is known, or no more than it can ask for
      one-clock : (rs : List ClockedRival) (k : ℕ) → moment k ≡ x → (c : ℕ) → c < count → work_from (streams_on c rs) (moment c) w ≤ unless_known (Some k) c (clock_work (streams_on c rs) (cycle c) w) + (if k == c then work_from (streams_on k rs) x w else 0)
      one-clock rs k is c h =
          elim (cases_Bool (k == c)) [
            | inl same ↦
                let e : k ≡ c = eqb-true k c same in
                let here = rw e at is in
                rw (same, e, here) (omega arith)
            | inr other ↦
                let most_here = le-most_of (λ z. work_from (streams_on c rs) z w) (cycle c) (moment c) (below c h).0 (below c h).1 in
                rw other (omega (arith, most_here))
          ]

      joined : (rs : List ClockedRival) (known : Option ℕ) → ((c : ℕ) → known ≡ Some c → moment c ≡ x) → sum_by (λ c. work_from (streams_on c rs) (moment c) w) (range_with_len 0 count) ≤ work_from (joint_of known rs) x w + other_clocks_work known rs cycle count w
      joined rs None is =
          omega (
            arith,
            range-grows (λ c. work_from (streams_on c rs) (moment c) w) (λ c. clock_work (streams_on c rs) (cycle c) w) 0 count
                (λ c low h. le-most_of (λ z. work_from (streams_on c rs) z w) (cycle c) (moment c) (below c (omega arith)).0 (below c (omega arith)).1),
          )
      joined rs (Some k) is =
          let f : ℕ → ℕ = λ c. work_from (streams_on c rs) (moment c) w in
          let g : ℕ → ℕ = λ c. unless_known (Some k) c (clock_work (streams_on c rs) (cycle c) w) in
          let n : ℕ = work_from (streams_on k rs) x w in
          let up = range-grows f (λ c. g c + (if k == c then n else 0)) 0 count (λ c low h. one-clock rs k (is k refl) c (omega arith)) in
          let once = range-once g (λ c. g c + (if k == c then n else 0)) n k 0 count (λ c. omega arith) in
          omega (arith, up, once)

      -- whatever the moment, no more work comes than is counted with one clock known
      pub work-covers : (js : List ℕ) (known : Option ℕ) (d : ℕ) → ((c : ℕ) → known ≡ Some c → moment c ≡ x) → AllByRecursion (λ j. IsKnownRival (rival j) moment count w (most j)) js → IsAtMost (others (joint_of known (map rival js)) (rest_of known (map rival js) cycle count) x w) (Within d) → sum_by (λ j. most j * (rival j).worst) js ≤ d
      work-covers js known d is all h =
          let rs : List ClockedRival = map rival js in
          let parts = plus-parts (Within (work_from (joint_of known rs) x w)) (rest_of known rs cycle count w) d h in
          let more = plus-parts (Within (other_clocks_work known rs cycle count w)) (work_in (free_of rs) w) parts.1 parts.3 in
          let joint : work_from (joint_of known rs) x w ≤ parts.0 = parts.2 in
          let elsewhere : other_clocks_work known rs cycle count w ≤ more.0 = more.2 in
          omega (arith, covered js more.1 all more.3, joined rs known is, joint, elsewhere, more.4, parts.4)
