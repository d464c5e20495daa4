-- The segments of a run are all that there are, in their order.
use Rattle.std.proofs.Common.{◌≡◌, ℕ, zero, suc, ◌+◌, ◌-◌, ◌<◌, ◌≤◌, length, [], ◌∷◌, Bool, true, false, not, Option, Some, None, refl, sym, ◌∙◌, ap, subst, inl, inr, arith, add-one}
use Rattle.std.specs.List.{Contains, AllPairs}
use Rattle.std.proofs.lemmas.Bool.{cases_lt, cases_Bool, eqb-true, cond-true, cond-false, false≢true}
use Rattle.cpa_units.specs.Search.{least_from}
use Rattle.cpa_units.proofs.SearchLaws.{least_from-ge, least_from-le, least_from-passes, least_from-least}
use Rattle.cpa_units.proofs.PlaceLaws.{places}
use Rattle.cpa_model.specs.SystemLists.{SystemLists}
use Rattle.cpa_trace.specs.Trace.{TraceLists}
use Rattle.cpa_sim.specs.declared.jobs.Served.{Served}
use Rattle.cpa_sim.specs.Outcome.{end_of}
use Rattle.cpa_sim.specs.Served.{served_at}
use Rattle.cpa_sim.proofs.InvariantLaws.{CanRun}
use Rattle.cpa_sim.proofs.StartLaws.{can-run}
use Rattle.cpa_sim.proofs.ServedLaws.{served-on}
use Rattle.std.specs.List.{flat_map}
use Rattle.cpa_audit.specs.declared.schedule.Segment.{Segment}
use Rattle.cpa_audit.specs.Segments.{resource_of, is_job, gets, last_served, stop_of, segment_by, segment_at, starting, segments, IsSegment}
use Rattle.cpa_audit.specs.Laws.{ComesBefore, AreSegments, SegmentsAreAll}
use Rattle.cpa_audit.proofs.ListLaws.{nothing-in, one-in, head-in, made-in, made-all, pairs-none, pairs-one, pairs-made}
use Rattle.cpa_audit.proofs.SegmentLaws.{same-refl, same-is, gets-is, at-is, starting-is, started-is, stops-at}

is-some : (o : Option Served) (j : Served) → is_job o j ≡ true → o ≡ Some j
is-some None j e = absurd (false≢true e)
is-some (Some k) j e = ap Some (same-is k j e)

not-job : (o : Option Served) (j : Served) → (o ≡ Some j → ⊥) → is_job o j ≡ false
not-job o j other = elim (cases_Bool (is_job o j)) [ inl e ↦ absurd (other (is-some o j e)) | inr e ↦ e ]

module _ (s : SystemLists) (tr : TraceLists) where
  got-by : (r : ℕ) (j : Served) (t : ℕ) → gets s tr r j t ≡ true → served_at s tr t r ≡ Some j
  got-by r j t e = is-some (served_at s tr t r) j (sym (gets-is s tr r j t) ∙ e)

  gets-by : (r : ℕ) (j : Served) (t : ℕ) → served_at s tr t r ≡ Some j → gets s tr r j t ≡ true
  gets-by r j t e = gets-is s tr r j t ∙ (ap (λ o. is_job o j) e ∙ same-refl j)

  segments-is : segments s tr ≡ flat_map (starting s tr) (places (end_of s tr))
  unfolding segments
  segments-is = started-is s tr (end_of s tr)

  -- where the segment of a job that gets a tick stops
  record Stops (r : ℕ) (j : Served) (t e : ℕ) : Type 0 where
    pub later : t < e
    pub within : e ≤ end_of s tr
    pub each : (u : ℕ) → t ≤ u → u < e → gets s tr r j u ≡ true
    pub ends : e < end_of s tr → gets s tr r j e ≡ false

  not-true : (b : Bool) → not b ≡ true → b ≡ false
  not-true true e = absurd (false≢true e)
  not-true false e = refl

  stops : (r : ℕ) (j : Served) (t : ℕ) → t < end_of s tr → gets s tr r j t ≡ true → Stops r j t (stop_of s tr r j t)
  unfolding stop_of
  stops r j t less got =
      let p : ℕ → Bool = λ u. not (gets s tr r j u) in
      let n : ℕ = end_of s tr - t in
      let found : ℕ = least_from (λ u. not (gets s tr r j u)) t (end_of s tr - t) in
      let low = least_from-ge p t n in
      let high = least_from-le p t n in
      record {
        later = elim (cases_lt t found) [
          | inl h ↦ h
          | inr h ↦
              let same : found ≡ t = omega (arith, low, h) in
              let passes = least_from-passes p t n (omega (arith, less, same)) in
              let fails : gets s tr r j t ≡ false = ap (gets s tr r j) (sym same) ∙ not-true (gets s tr r j found) passes in
              absurd (false≢true (sym fails ∙ got))
        ];
        within = omega (arith, high, less);
        each = λ u from before. elim (cases_Bool (gets s tr r j u)) [
          | inl e ↦ e
          | inr e ↦
              let here : not (gets s tr r j u) ≡ true = rw e refl in
              absurd (omega (arith, least_from-least p t n u from here, before))
        ];
        ends = λ h. not-true (gets s tr r j found) (least_from-passes p t n (omega (arith, less, h)));
      }

  -- no tick before
  fresh : (t r : ℕ) (j : Served) → ((u : ℕ) → u + 1 ≡ t → served_at s tr u r ≡ Some j → ⊥) → is_job (last_served s tr r t) j ≡ false
  fresh zero r j none = refl
  fresh (suc u) r j none = not-job (served_at s tr u r) j (none u (add-one u))

  not-fresh : (t r u : ℕ) (j : Served) → is_job (last_served s tr r t) j ≡ false → u + 1 ≡ t → served_at s tr u r ≡ Some j → ⊥
  not-fresh t r u j new at got =
      let e : suc u ≡ t = sym (add-one u) ∙ at in
      let h : is_job (served_at s tr u r) j ≡ false = subst (λ v. is_job (last_served s tr r v) j ≡ false) (sym e) new in
      false≢true (sym h ∙ (ap (λ o. is_job o j) got ∙ same-refl j))

  -- a segment of a resource that starts with a tick
  record Starts (t r : ℕ) (seg : Segment) : Type 0 where
    pub is : IsSegment s tr seg
    pub start : seg.start ≡ t
    pub resource : resource_of s seg.task ≡ r

  module _ (can : CanRun s tr) where
    made-starts : (t r : ℕ) (j : Served) → t < end_of s tr → r < length s.resources → served_at s tr t r ≡ Some j → is_job (last_served s tr r t) j ≡ false → Starts t r (record { task = j.task; start = t; end = stop_of s tr r j t })
    made-starts t r j less there got new =
        let on = served-on s tr can t r j there got in
        let res : resource_of s j.task ≡ r = eqb-true (resource_of s j.task) r on.here in
        let stop = stops r j t less (gets-by r j t got) in
        record {
          is = record {
            job = j.job;
            task = on.task;
            some = stop.later;
            within = stop.within;
            each = λ u from before. subst (λ q. served_at s tr u q ≡ Some j) (sym res) (got-by r j u (stop.each u from before));
            not_before = λ u at h. not-fresh t r u j new at (subst (λ q. served_at s tr u q ≡ Some j) res h);
            not_after = λ h h'. false≢true (sym (stop.ends h) ∙ gets-by r j (stop_of s tr r j t) (subst (λ q. served_at s tr (stop_of s tr r j t) q ≡ Some j) res h'));
          };
          start = refl;
          resource = res;
        }

    starts-by : (t r : ℕ) → t < end_of s tr → r < length s.resources → (o : Option Served) → served_at s tr t r ≡ o → (seg : Segment) → Contains (segment_by s tr t r o) seg → Starts t r seg
    starts-by t r less there None got seg h = absurd (nothing-in seg h)
    starts-by t r less there (Some j) got seg h =
        let made : Segment = record { task = j.task; start = t; end = stop_of s tr r j t } in
        elim (cases_Bool (is_job (last_served s tr r t) j)) [
          | inl before ↦ absurd (nothing-in seg (subst (λ xs. Contains xs seg) (cond-true (is_job (last_served s tr r t) j) [] (made ∷ []) before) h))
          | inr new ↦ subst (Starts t r) (one-in made seg (subst (λ xs. Contains xs seg) (cond-false (is_job (last_served s tr r t) j) [] (made ∷ []) new) h)) (made-starts t r j less there got new)
        ]

    starts : (t r : ℕ) → t < end_of s tr → r < length s.resources → (seg : Segment) → Contains (segment_at s tr t r) seg → Starts t r seg
    starts t r less there seg h = starts-by t r less there (served_at s tr t r) refl seg (subst (λ xs. Contains xs seg) (at-is s tr t r) h)

    starts-at : (t : ℕ) → t < end_of s tr → (seg : Segment) → Contains (starting s tr t) seg → (r : ℕ) × (r < length s.resources) × Starts t r seg
    starts-at t less seg h =
        let m = made-in (segment_at s tr t) 0 (length s.resources) seg (subst (λ xs. Contains xs seg) (starting-is s tr t) h) in
        let there : m.place < length s.resources = omega (arith, m.below) in
        (m.place, there, starts t m.place less there seg m.is)

    pub each-is : (seg : Segment) → Contains (segments s tr) seg → IsSegment s tr seg
    each-is seg h =
        let m = made-in (starting s tr) 0 (end_of s tr) seg (subst (λ xs. Contains xs seg) segments-is h) in
        let found = starts-at m.place (omega (arith, m.below)) seg m.is in
        found.2.is

    all-in : (seg : Segment) → IsSegment s tr seg → Contains (segments s tr) seg
    all-in seg is =
        let r = resource_of s seg.task in
        let t = seg.start in
        let j : Served = record { task = seg.task; job = is.job } in
        let there : r < length s.resources = can.placed seg.task.0 is.task in
        let got : served_at s tr t r ≡ Some j = is.each t (omega arith) is.some in
        let new = fresh t r j is.not_before in
        let end = stops-at s tr r j t seg.end (omega (arith, is.some)) is.within (λ u from before. gets-by r j u (is.each u from before)) (λ less. gets-is s tr r j seg.end ∙ not-job (served_at s tr seg.end r) j (is.not_after less)) in
        let made : segment_at s tr t r ≡ seg ∷ [] =
        at-is s tr t r
        ∙ (ap (segment_by s tr t r) got
        ∙ (cond-false (is_job (last_served s tr r t) j) [] (record { task = seg.task; start = t; end = stop_of s tr r j t } ∷ []) new ∙ ap (λ e. let x : Segment = record { task = seg.task; start = t; end = e } in x ∷ []) end)) in
        let here : Contains (segment_at s tr t r) seg = subst (λ xs. Contains xs seg) (sym made) (head-in seg []) in
        let at : Contains (starting s tr t) seg = subst (λ xs. Contains xs seg) (sym (starting-is s tr t)) (made-all (segment_at s tr t) 0 (length s.resources) r seg (omega arith) (omega (arith, there)) here) in
        subst (λ xs. Contains xs seg) (sym segments-is) (made-all (starting s tr) 0 (end_of s tr) t seg (omega arith) (omega (arith, is.some, is.within)) at)

    ordered-by : (t r : ℕ) (o : Option Served) → AllPairs (ComesBefore s) (segment_by s tr t r o)
    ordered-by t r None = pairs-none (ComesBefore s)
    ordered-by t r (Some j) =
        let made : Segment = record { task = j.task; start = t; end = stop_of s tr r j t } in
        elim (cases_Bool (is_job (last_served s tr r t) j)) [
          | inl e ↦ subst (AllPairs (ComesBefore s)) (sym (cond-true (is_job (last_served s tr r t) j) [] (made ∷ []) e)) (pairs-none (ComesBefore s))
          | inr e ↦ subst (AllPairs (ComesBefore s)) (sym (cond-false (is_job (last_served s tr r t) j) [] (made ∷ []) e)) (pairs-one (ComesBefore s) made)
        ]

    ordered-at : (t : ℕ) → t < end_of s tr → AllPairs (ComesBefore s) (starting s tr t)
    ordered-at t less =
        subst (AllPairs (ComesBefore s)) (sym (starting-is s tr t))
        (pairs-made (ComesBefore s) (segment_at s tr t) 0 (length s.resources) (λ r from below. subst (AllPairs (ComesBefore s)) (sym (at-is s tr t r)) (ordered-by t r (served_at s tr t r)))
        (λ p q x y from more below a b.
        let first = starts t p less (omega arith) x a in
        let second = starts t q less (omega arith) y b in
        inr (first.start ∙ sym second.start, omega (arith, first.resource, second.resource, more))))

    ordered : AllPairs (ComesBefore s) (segments s tr)
    ordered =
        subst (AllPairs (ComesBefore s)) (sym segments-is)
        (pairs-made (ComesBefore s) (starting s tr) 0 (end_of s tr) (λ t from below. ordered-at t (omega arith))
        (λ p q x y from more below a b.
        let first = starts-at p (omega arith) x a in
        let second = starts-at q (omega arith) y b in
        let one = first.2.start in
        let other = second.2.start in
        inl (omega (arith, one, other, more))))

    are-segments : AreSegments s tr (segments s tr)
    are-segments = record { each = each-is; all = all-in; ordered = ordered }

pub segments-are-all : SegmentsAreAll
segments-are-all s tr rules can = are-segments s tr (can-run s tr rules can)
