-- The segments that have started by a time.
use Rattle.std.proofs.Common.{◌≡◌, ℕ, zero, suc, ◌+◌, ◌-◌, ◌<◌, ◌≤◌, ◌++◌, length, List, [], Bool, true, false, not, eqb, ◌&&◌, Option, Some, None, refl, sym, ◌∙◌, ap, inl, inr, arith, add-one, append_assoc}
use Rattle.std.specs.List.{flat_map, range_with_len}
use Rattle.std.proofs.lemmas.Bool.{cases_lt, eqb-true, eq-eqb, false≢true}
use Rattle.std.proofs.lemmas.List.{append-nil}
use Rattle.std.proofs.lemmas.List.Concat.{flat_map-cons}
use Rattle.cpa_units.proofs.PlaceLaws.{places, flat_map-places_more}
use Rattle.cpa_units.specs.Search.{least_from}
use Rattle.cpa_units.proofs.SearchLaws.{least_from-ge, least_from-le, least_from-passes, least_from-least}
use Rattle.cpa_model.specs.SystemLists.{SystemLists}
use Rattle.cpa_trace.specs.Trace.{TraceLists}
use Rattle.cpa_sim.specs.declared.jobs.Served.{Served}
use Rattle.cpa_sim.specs.Outcome.{end_of}
use Rattle.cpa_sim.specs.Served.{served_at}
use Rattle.cpa_audit.specs.declared.schedule.Segment.{Segment}
use Rattle.cpa_audit.specs.Segments.{same_job, is_job, gets, last_served, stop_of, segment_by, segment_at, starting, started}

-- ---- jobs

pub same-refl : (j : Served) → same_job j j ≡ true
same-refl j = rw (eq-eqb j.task.0 j.task.0 refl, eq-eqb j.job j.job refl) refl

both : (a b : Bool) → (a && b) ≡ true → (a ≡ true) × (b ≡ true)
both true b e = (refl, e)
both false b e = absurd (false≢true e)

pub same-is : (a b : Served) → same_job a b ≡ true → a ≡ b
same-is a b e =
    let h = both (eqb a.task.0 b.task.0) (eqb a.job b.job) e in
    let p : a.task.0 ≡ b.task.0 = eqb-true a.task.0 b.task.0 h.0 in
    let q : a.job ≡ b.job = eqb-true a.job b.job h.1 in
    λ i. record { task = record { 0 = p i }; job = q i }

module _ (s : SystemLists) (tr : TraceLists) where
  pub gets-is : (r : ℕ) (j : Served) (t : ℕ) → gets s tr r j t ≡ is_job (served_at s tr t r) j
  unfolding gets
  gets-is r j t = refl

  pub at-is : (t r : ℕ) → segment_at s tr t r ≡ segment_by s tr t r (served_at s tr t r)
  unfolding segment_at
  at-is t r = refl

  pub starting-is : (t : ℕ) → starting s tr t ≡ flat_map (segment_at s tr t) (places (length s.resources))
  unfolding starting
  starting-is t = refl

  pub started-is : (t : ℕ) → started s tr t ≡ flat_map (starting s tr) (places t)
  unfolding started
  started-is t = refl

  pub started-zero : started s tr 0 ≡ []
  unfolding started
  started-zero = refl

  pub started-more : (t : ℕ) → started s tr (t + 1) ≡ started s tr t ++ starting s tr t
  unfolding started
  started-more t = flat_map-places_more (starting s tr) t

  -- nothing starts where the same job, or nobody, got the tick before
  quiet : (t r : ℕ) (o : Option Served) → last_served s tr r t ≡ o → segment_by s tr t r o ≡ []
  quiet t r None e = refl
  quiet t r (Some j) e =
      let h : is_job (last_served s tr r t) j ≡ true = rw e (same-refl j) in
      rw h refl

  pub nothing-starts : (t r : ℕ) → served_at s tr (t + 1) r ≡ served_at s tr t r → segment_at s tr (t + 1) r ≡ []
  nothing-starts t r same =
      let before : last_served s tr r (t + 1) ≡ served_at s tr t r = rw add-one refl in
      at-is (t + 1) r ∙ (ap (segment_by s tr (t + 1) r) same ∙ quiet (t + 1) r (served_at s tr t r) before)

  none-of : (f : ℕ → List Segment) (a n : ℕ) → ((r : ℕ) → r < a + n → f r ≡ []) → flat_map f (range_with_len a n) ≡ []
  none-of f a zero none = refl
  none-of f a (suc n) none =
      flat_map-cons f a (range_with_len (a + 1) n)
      ∙ (ap (λ xs. xs ++ flat_map f (range_with_len (a + 1) n)) (none a (omega arith)) ∙ none-of f (a + 1) n (λ r less. none r (omega arith)))

  -- while the same jobs get the ticks, nothing starts
  pub started-jump : (t n : ℕ) → ((r u : ℕ) → r < length s.resources → t ≤ u → u < t + suc n → served_at s tr u r ≡ served_at s tr t r)
      → started s tr (t + suc n) ≡ started s tr t ++ starting s tr t
  started-jump t zero same = let e : t + 1 ≡ t + 1 = refl in started-more t
  started-jump t (suc n) same =
      let e : t + suc (suc n) ≡ (t + suc n) + 1 = omega arith in
      let e' : (t + n) + 1 ≡ t + suc n = omega arith in
      let none : starting s tr (t + suc n) ≡ [] =
      starting-is (t + suc n)
      ∙ none-of (segment_at s tr (t + suc n)) 0 (length s.resources)
      (λ r below.
      let less : r < length s.resources = omega (arith, below) in
      let h = nothing-starts (t + n) r (rw e' (same r (t + suc n) less (omega arith) (omega arith)) ∙ sym (same r (t + n) less (omega arith) (omega arith))) in
      rw e' at h) in
      rw e (started-more (t + suc n) ∙ (ap (λ xs. started s tr (t + suc n) ++ xs) none ∙ (append-nil (started s tr (t + suc n)) ∙ started-jump t n (λ r u less low high. same r u less low (omega arith)))))

  -- what has started by a time is a first part of what has later
  pub record Later (t later : ℕ) : Type 0 where
    pub rest : List Segment
    pub is : started s tr later ≡ started s tr t ++ rest

  pub started-later : (t n : ℕ) → Later t (t + n)
  started-later t zero =
      let e : t + 0 ≡ t = omega arith in
      record { rest = []; is = ap (started s tr) e ∙ sym (append-nil (started s tr t)) }
  started-later t (suc n) =
      let before = started-later t n in
      let e : t + suc n ≡ (t + n) + 1 = omega arith in
      record {
        rest = before.rest ++ starting s tr (t + n);
        is = ap (started s tr) e ∙ (started-more (t + n) ∙ (ap (λ xs. xs ++ starting s tr (t + n)) before.is ∙ append_assoc (started s tr t) before.rest (starting s tr (t + n))));
      }

  -- where a segment stops
  pub stops-at : (r : ℕ) (j : Served) (start e : ℕ) → start ≤ e → e ≤ end_of s tr → ((u : ℕ) → start ≤ u → u < e → gets s tr r j u ≡ true) → (e < end_of s tr → gets s tr r j e ≡ false) → stop_of s tr r j start ≡ e
  unfolding stop_of
  stops-at r j start e from within each stops =
      let p : ℕ → Bool = λ u. not (gets s tr r j u) in
      let n : ℕ = end_of s tr - start in
      let found : ℕ = least_from (λ u. not (gets s tr r j u)) start (end_of s tr - start) in
      elim (cases_lt found e) [
        | inl early ↦
            let passes = least_from-passes p start n (omega arith) in
            let got : not (gets s tr r j found) ≡ false = rw (each found (omega (arith, low p start n)) early) refl in
            absurd (false≢true (sym got ∙ passes))
        | inr late ↦ elim (cases_lt e (end_of s tr)) [
          | inl h ↦
              let here : not (gets s tr r j e) ≡ true = rw (stops h) refl in
              omega (arith, least_from-least p start n e from here, late)
          | inr h ↦ omega (arith, least_from-le p start n, late)
        ]
      ]
    where
      low : (p : ℕ → Bool) (first count : ℕ) → first ≤ least_from p first count
      low p first count = least_from-ge p first count
