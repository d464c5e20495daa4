-- By clocks others ask for no more than without: each stream is on one clock at most.
use Rattle.std.proofs.Common.{◌≡◌, ℕ, zero, suc, ◌+◌, ◌*◌, ◌<◌, ◌≤◌, ◌==◌, if◌then◌else◌, List, [], ◌∷◌, Option, Some, None, refl, ap, inl, inr, arith}
use Rattle.std.specs.List.{sum_by, range_with_len}
use Rattle.std.proofs.lemmas.Bool.{cases_Bool, eq-eqb}
use Rattle.std.proofs.lemmas.List.Sums.{sum_by-cons}
use Rattle.cpa_units.specs.declared.bound.Bound.{Bound}
use Rattle.cpa_units.specs.declared.bound.Bound.TheVariants.{Within, Overload}
use Rattle.cpa_units.specs.Bounds.{IsAtMost, bound_plus, bound_times}
use Rattle.cpa_units.proofs.BoundLaws.{IsAtMost_trans, IsAtMost-from_numbers}
use Rattle.cpa_events.specs.declared.stream.Stream.{Stream}
use Rattle.cpa_events.specs.Streams.{stream_eta_plus}
use Rattle.cpa_events.specs.Events.{Model, eta_plus}
use Rattle.cpa_events.proofs.EventLaws.{eta_plus-of_one, eta_plus-cons}
use Rattle.cpa_window.specs.declared.rivals.Rival.{Rival}
use Rattle.cpa_window.specs.Rivals.{events_in, work_in}
use Rattle.cpa_phase.specs.declared.placed.Placed.{Placed}
use Rattle.cpa_phase.specs.Streams.{work_from}
use Rattle.cpa_phase.specs.Clocks.{clock_work}
use Rattle.cpa_phase.specs.Growth.{plain_work}
use Rattle.cpa_phase.proofs.WorkLaws.{work_from-le_plain, clock_work-le_plain}
use Rattle.cpa_offset.specs.Offsets.{others}
use Rattle.cpa_clock.specs.Anchors.{Anchors, placed_at}
use Rattle.cpa_clock.specs.declared.anchor.Anchor.{Anchor}
use Rattle.cpa_clock.specs.Rivals.{ClockedRival, with_stream, with_input, with_rival, streams_on, with_free_stream, with_free_input, with_free_rival, free_of, joint_of, unless_known, other_clocks_work, rest_of}
use Rattle.cpa_clock.specs.Wider.{AreSameRivals}
use Rattle.cpa_clock.proofs.SumLaws.{plus-parts, plus-within, range-grows, range-more, range-once}

module _ (count w : ℕ) where
  -- what some streams more come to: a number that those on no clock ask for at most, and no more in all than without clocks
  record Counted (n : ℕ) (more : List Rival) (lists longer : ℕ → List Placed) (e : ℕ) : Type 0 where
    free : ℕ
    within : IsAtMost (work_in more w) (Within free)
    all : free + sum_by (λ c. plain_work (longer c) w) (range_with_len 0 count) ≤ e + sum_by (λ c. plain_work (lists c) w) (range_with_len 0 count) + n

  counted-stream : (o : Option Anchor) (st : Stream) (worst : ℕ) (frees : List Rival) (lists : ℕ → List Placed) (e : ℕ) → IsAtMost (work_in frees w) (Within e)
      → Counted (stream_eta_plus st w * worst) (with_free_stream worst o st frees) lists (λ c. with_stream c worst o st (lists c)) e
  counted-stream None st worst frees lists e h =
      let one : eta_plus (st ∷ []) w * worst ≤ stream_eta_plus st w * worst = omega (arith, ap (λ n. n * worst) (eta_plus-of_one st w)) in
      record { free = stream_eta_plus st w * worst + e; within = plus-within (Within (eta_plus (st ∷ []) w * worst)) (work_in frees w) (stream_eta_plus st w * worst) e one h; all = omega arith }
  counted-stream (Some a) st worst frees lists e h =
      let all = range-once (λ c. plain_work (lists c) w) (λ c. plain_work (with_stream c worst (Some a) st (lists c)) w) (stream_eta_plus st w * worst) a.clock 0 count (λ c. grows c) in
      record { free = e; within = h; all = omega (arith, all) }
    where
      grows : (c : ℕ) → plain_work (with_stream c worst (Some a) st (lists c)) w ≤ plain_work (lists c) w + (if a.clock == c then stream_eta_plus st w * worst else 0)
      grows c =
          elim (cases_Bool (a.clock == c)) [
            | inl same ↦ rw same (omega (arith, sum_by-cons (λ (p : Placed). stream_eta_plus p.stream w * p.worst) (placed_at st a worst) (lists c)))
            | inr other ↦ rw other (omega arith)
          ]

  counted-input : (anchors : Anchors) (first : ℕ) (m : Model) (worst : ℕ) (frees : List Rival) (lists : ℕ → List Placed) (e : ℕ) → IsAtMost (work_in frees w) (Within e)
      → Counted (eta_plus m w * worst) (with_free_input worst anchors first m frees) lists (λ c. with_input c worst anchors first m (lists c)) e
  counted-input anchors first [] worst frees lists e h = record { free = e; within = h; all = omega arith }
  counted-input anchors first (st ∷ m) worst frees lists e h =
      let rest = counted-input anchors (first + 1) m worst frees lists e h in
      let one =
      counted-stream (anchors first) st worst (with_free_input worst anchors (first + 1) m frees) (λ c. with_input c worst anchors (first + 1) m (lists c)) rest.free rest.within
      in
      let split : eta_plus (st ∷ m) w * worst ≡ stream_eta_plus st w * worst + eta_plus m w * worst = rw (eta_plus-cons st m w) (omega arith) in
      record { free = one.free; within = one.within; all = omega (arith, split, one.all, rest.all) }

  counted-rival : (model : Option Model) (anchors : Anchors) (worst n : ℕ) (frees : List Rival) (lists : ℕ → List Placed) (e : ℕ) → IsAtMost (bound_times (events_in model w) worst) (Within n) → IsAtMost (work_in frees w) (Within e)
      → Counted n (with_free_rival worst anchors model frees) lists (λ c. with_rival c worst anchors model (lists c)) e
  counted-rival None anchors worst n frees lists e h k =
      record { free = n + e; within = plus-within (bound_times (events_in None w) worst) (work_in frees w) n e h k; all = omega arith }
  counted-rival (Some m) anchors worst n frees lists e h k =
      let all = counted-input anchors 0 m worst frees lists e k in
      let most : eta_plus m w * worst ≤ n = h in
      record { free = all.free; within = all.within; all = omega (arith, all.all, most) }

  same-work : (m n : Option Model) (v v' e : ℕ) → m ≡ n → v ≡ v' → IsAtMost (bound_times (events_in m w) v) (Within e) → IsAtMost (bound_times (events_in n w) v') (Within e)
  same-work m n v v' e model worst h = rw (model, worst) at h

  counted : (rs : List ClockedRival) (ss : List Rival) (e : ℕ) → AreSameRivals rs ss → IsAtMost (work_in ss w) (Within e) → (free : ℕ) × IsAtMost (work_in (free_of rs) w) (Within free) × (free + sum_by (λ c. plain_work (streams_on c rs) w) (range_with_len 0 count) ≤ e)
  counted [] [] e same h = (0, omega arith, omega (arith, range-grows (λ c. plain_work (streams_on c []) w) (λ c. 0) 0 count (λ c low high. omega arith), nothing 0 count))
    where
      nothing : (first many : ℕ) → sum_by (λ c. 0) (range_with_len first many) ≡ 0
      nothing first zero = refl
      nothing first (suc many) = omega (arith, nothing (first + 1) many, sum_by-cons (λ c. 0) first (range_with_len (first + 1) many))
  counted [] (s ∷ ss) e same h = absurd same
  counted (r ∷ rs) [] e same h = absurd same
  counted (r ∷ rs) (s ∷ ss) e same h =
      let parts = plus-parts (bound_times (events_in s.model w) s.worst) (work_in ss w) e h in
      let here = same-work s.model r.model s.worst r.worst parts.0 same.0.model same.0.worst parts.2 in
      let rest = counted rs ss parts.1 same.1 parts.3 in
      let one = counted-rival r.model r.anchors r.worst parts.0 (free_of rs) (λ c. streams_on c rs) rest.0 here rest.1 in
      (one.free, one.within, omega (arith, one.all, rest.2, parts.4))

  module _ (cycle : ℕ → ℕ) (rs : List ClockedRival) where
    apart-below : (k c : ℕ) → unless_known (Some k) c (clock_work (streams_on c rs) (cycle c) w) ≤ plain_work (streams_on c rs) w
    apart-below k c =
        elim (cases_Bool (k == c)) [
          | inl here ↦ rw here (omega arith)
          | inr other ↦ rw other (clock_work-le_plain (streams_on c rs) (cycle c) w)
        ]

    by-clocks : (known : Option ℕ) (x : ℕ) → ((k : ℕ) → known ≡ Some k → k < count) → work_from (joint_of known rs) x w + other_clocks_work known rs cycle count w ≤ sum_by (λ c. plain_work (streams_on c rs) w) (range_with_len 0 count)
    by-clocks None x below =
        omega (arith, range-grows (λ c. clock_work (streams_on c rs) (cycle c) w) (λ c. plain_work (streams_on c rs) w) 0 count (λ c low high. clock_work-le_plain (streams_on c rs) (cycle c) w))
    by-clocks (Some k) x below =
        let f : ℕ → ℕ = λ c. unless_known (Some k) c (clock_work (streams_on c rs) (cycle c) w) in
        let none : f k ≡ 0 = rw (eq-eqb k k refl) refl in
        range-more f (λ c. plain_work (streams_on c rs) w) (work_from (streams_on k rs) x w) 0 count k (apart-below k) (omega (arith, none, work_from-le_plain (streams_on k rs) x w)) (omega arith) (omega (arith, below k refl))

    -- others ask for no more
    pub others-at_most : (ss : List Rival) (known : Option ℕ) (x : ℕ) → AreSameRivals rs ss → ((k : ℕ) → known ≡ Some k → k < count) → IsAtMost (others (joint_of known rs) (rest_of known rs cycle count) x w) (work_in ss w)
    others-at_most ss known x same below =
        IsAtMost-from_numbers (others (joint_of known rs) (rest_of known rs cycle count) x w) (work_in ss w) (λ n e.
        let le : IsAtMost (work_in ss w) (Within n) = rw e (omega arith) in
        let c = counted rs ss n same le in
        let clocks = by-clocks known x below in
        let rest : IsAtMost (rest_of known rs cycle count w) (Within (other_clocks_work known rs cycle count w + c.0)) =
        plus-within (Within (other_clocks_work known rs cycle count w)) (work_in (free_of rs) w) (other_clocks_work known rs cycle count w) c.0 (omega arith) c.1
        in
        IsAtMost_trans (others (joint_of known rs) (rest_of known rs cycle count) x w) (Within (work_from (joint_of known rs) x w + (other_clocks_work known rs cycle count w + c.0))) (Within n)
        (plus-within (Within (work_from (joint_of known rs) x w)) (rest_of known rs cycle count w) (work_from (joint_of known rs) x w) (other_clocks_work known rs cycle count w + c.0) (omega arith) rest)
        (omega (arith, clocks, c.2)))

    -- the same of those elsewhere alone
    pub rest-at_most : (ss : List Rival) → AreSameRivals rs ss → IsAtMost (rest_of None rs cycle count w) (work_in ss w)
    rest-at_most ss same =
        IsAtMost_trans (rest_of None rs cycle count w) (others [] (rest_of None rs cycle count) 0 w) (work_in ss w) (alone (rest_of None rs cycle count w))
        (others-at_most ss None 0 same (λ k e. absurd cc))
      where
        alone : (b : Bound) → IsAtMost b (bound_plus (Within 0) b)
        alone (Within b) = omega arith
        alone Overload = tt
