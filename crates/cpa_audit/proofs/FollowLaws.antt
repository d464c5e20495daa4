-- One resource, followed over a jump.
use Rattle.std.proofs.Common.{◌≡◌, ℕ, ◌+◌, ◌<◌, ◌≤◌, ◌++◌, length, List, [], ◌∷◌, true, false, eqb, Option, Some, None, option_map, refl, sym, ◌∙◌, ap, subst, inl, inr, arith, length-append}
use mathlib.Core.Path.{fun_ext}
use Rattle.std.proofs.lemmas.Bool.{cases_Bool, eqb-true, eq-eqb, cond-true, cond-false, false≢true}
use Rattle.std.proofs.lemmas.List.{append-nil}
use Rattle.cpa_model.specs.SystemLists.{SystemLists}
use Rattle.cpa_trace.specs.Trace.{TraceLists}
use Rattle.cpa_sim.specs.declared.jobs.Served.{Served}
use Rattle.cpa_sim.specs.Outcome.{end_of}
use Rattle.cpa_sim.specs.Served.{served_at}
use Rattle.cpa_audit.specs.declared.schedule.Segment.{Segment}
use Rattle.cpa_audit.specs.declared.auditing.Open.{Open}
use Rattle.cpa_audit.specs.declared.auditing.Difference.{Difference}
use Rattle.cpa_audit.specs.Segments.{same_job, is_job, gets, last_served, stop_of, segment_by, segment_at}
use Rattle.cpa_audit.specs.Auditing.{goes_on, closed, going_after, first_after, count_after, put}
use Rattle.cpa_audit.specs.Compared.{IsCompared}
use Rattle.cpa_audit.proofs.SegmentLaws.{same-refl, same-is, gets-is, at-is}
use Rattle.cpa_audit.proofs.AuditLaws.{compared-later, compared-closed, compared-opened}

job_of : Open → Served
job_of o = o.job

same-sym : (a b : Served) → same_job a b ≡ false → same_job b a ≡ false
same-sym a b e =
    elim (cases_Bool (same_job b a)) [
      | inr f ↦ f
      | inl t ↦ let one : b ≡ a = same-is b a t in absurd (false≢true (sym e ∙ (ap (λ x. same_job a x) one ∙ same-refl a)))
    ]

not-before : (going : Option Open) (j : Served) → goes_on going (Some j) ≡ false → is_job (option_map (λ (o : Open). o.job) going) j ≡ false
not-before None j off = refl
not-before (Some o) j off = same-sym j o.job off

put-same : (f : ℕ → Option Open) (k : ℕ) (r : ℕ) → put f k (f k) r ≡ f r
put-same f k r = elim (cases_Bool (eqb r k)) [ inl e ↦ rw e (ap f (sym (eqb-true r k e))) | inr e ↦ rw e refl ]

pub put-none : (f : ℕ → Option Open) (k : ℕ) → f k ≡ None → (r : ℕ) → put f k None r ≡ f r
put-none f k none r = elim (cases_Bool (eqb r k)) [ inl e ↦ rw e (sym (ap f (eqb-true r k e) ∙ none)) | inr e ↦ rw e refl ]

put-put : (f : ℕ → Option Open) (k : ℕ) (a b : Option Open) (r : ℕ) → put (put f k a) k b r ≡ put f k b r
put-put f k a b r = elim (cases_Bool (eqb r k)) [ inl e ↦ rw e refl | inr e ↦ rw e refl ]

module _ (s : SystemLists) (tr : TraceLists) (schedule expected : List Segment) (time later : ℕ → ℕ) (open_on : ℕ → Option Open) (first : Option Difference) (k t next : ℕ)
    (c : IsCompared s tr schedule expected time open_on first) (at : time k ≡ t) (at' : later k ≡ next) (rest : (r : ℕ) → eqb r k ≡ false → later r ≡ time r)
    (more : t < next) (within : next ≤ end_of s tr) where
  pub record Followed (going : Option Open) (ran : Option Served) : Type 0 where
    pub compared : IsCompared s tr schedule (expected ++ segment_at s tr t k) later (put open_on k (going_after going ran t (length expected))) (first_after schedule first going ran t)
    pub count : length (expected ++ segment_at s tr t k) ≡ length expected + count_after going ran
    pub jobs : option_map (λ (o : Open). o.job) (going_after going ran t (length expected)) ≡ ran

  -- the other resources stay where they are
  later-but : (f : ℕ → Option Open) (d : Option Difference) (es : List Segment) → IsCompared s tr schedule es time f d → ((o : Open) → f k ≡ Some o → (u : ℕ) → t ≤ u → u < next → gets s tr k o.job u ≡ true)
      → IsCompared s tr schedule es later f d
  later-but f d es h goes =
      compared-later s tr schedule es time later f d h
      (λ r o e.
      elim (cases_Bool (eqb r k)) [
        | inl here ↦
            let same : r ≡ k = eqb-true r k here in
            let e' : f k ≡ Some o = ap f (sym same) ∙ e in
            rw (same, at, at') (omega arith, goes o e')
        | inr other ↦ rw (rest r other) (omega arith, λ u from before. absurd (omega arith))
      ])

  gets-at : (ran : Option Served) (j : Served) (u : ℕ) → served_at s tr u k ≡ ran → gets s tr k j u ≡ is_job ran j
  gets-at ran j u e = gets-is s tr k j u ∙ ap (λ o. is_job o j) e

  by-functions : (f g : ℕ → Option Open) (d : Option Difference) (es : List Segment) (times : ℕ → ℕ) → ((r : ℕ) → f r ≡ g r) → IsCompared s tr schedule es times f d → IsCompared s tr schedule es times g d
  by-functions f g d es times same h = subst (λ f. IsCompared s tr schedule es times f d) (fun_ext same) h

  segment-none : last_served s tr k t ≡ last_served s tr k t → served_at s tr t k ≡ None → segment_at s tr t k ≡ []
  segment-none z e = at-is s tr t k ∙ ap (segment_by s tr t k) e

  segment-goes : (j : Served) → served_at s tr t k ≡ Some j → is_job (last_served s tr k t) j ≡ true → segment_at s tr t k ≡ []
  segment-goes j e h = at-is s tr t k ∙ (ap (segment_by s tr t k) e ∙ cond-true _ _ _ h)

  segment-starts : (j : Served) → served_at s tr t k ≡ Some j → is_job (last_served s tr k t) j ≡ false → segment_at s tr t k ≡ record { task = j.task; start = t; end = stop_of s tr k j t } ∷ []
  segment-starts j e h = at-is s tr t k ∙ (ap (segment_by s tr t k) e ∙ cond-false _ _ _ h)

  -- the one that is open stops, if there is one
  stops : (going : Option Open) (ran : Option Served) → open_on k ≡ going → goes_on going ran ≡ false → served_at s tr t k ≡ ran → IsCompared s tr schedule expected time (put open_on k None) (closed schedule first going t)
  stops None ran is off e = by-functions open_on (put open_on k None) first expected time (λ r. sym (put-none open_on k is r)) c
  stops (Some o) ran is off e =
      let h = compared-closed s tr schedule expected time open_on first k o c is (omega (arith, at)) (λ less. rw at (gets-at ran o.job t e ∙ off-job ran off)) in
      rw at at h
    where
      off-job : (ran : Option Served) → goes_on (Some o) ran ≡ false → is_job ran o.job ≡ false
      off-job None f = refl
      off-job (Some j) f = f

  pub followed : (going : Option Open) (ran : Option Served) → open_on k ≡ going → option_map (λ (o : Open). o.job) going ≡ last_served s tr k t → ((u : ℕ) → t ≤ u → u < next → served_at s tr u k ≡ ran) → Followed going ran
  followed going ran is jobs same =
      elim (cases_Bool (goes_on going ran)) [
        | inl on ↦ goes going ran is on jobs same
        | inr off ↦ changes going ran is off jobs same
      ]
    where
      goes : (going : Option Open) (ran : Option Served) → open_on k ≡ going → goes_on going ran ≡ true → option_map (λ (o : Open). o.job) going ≡ last_served s tr k t → ((u : ℕ) → t ≤ u → u < next → served_at s tr u k ≡ ran) → Followed going ran
      goes None ran is on jobs same = absurd (false≢true on)
      goes (Some o) None is on jobs same = absurd (false≢true on)
      goes (Some o) (Some j) is on jobs same =
          let one : j ≡ o.job = same-is j o.job on in
          let got : (u : ℕ) → t ≤ u → u < next → gets s tr k o.job u ≡ true = λ u from before. gets-at (Some j) o.job u (same u from before) ∙ on in
          let none : segment_at s tr t k ≡ [] = segment-goes j (same t (omega arith) more) (ap (λ l. is_job l j) (sym jobs) ∙ (ap (λ x. same_job o.job x) one ∙ same-refl o.job)) in
          let h = later-but open_on first expected c (λ p e. let both : Some o ≡ Some p = sym is ∙ e in let q : o ≡ p = cc in subst (λ (x : Open). (u : ℕ) → t ≤ u → u < next → gets s tr k x.job u ≡ true) q got) in
          let h' = by-functions open_on (put open_on k (Some o)) first expected later (λ r. sym (ap (λ v. put open_on k v r) (sym is) ∙ put-same open_on k r)) h in
          let same-list : expected ++ segment_at s tr t k ≡ expected = ap (λ xs. expected ++ xs) none ∙ append-nil expected in
          record { compared = rw (same-list, on) h'; count = rw (same-list, on) (omega arith); jobs = rw on (ap Some (sym one)) }

      changes : (going : Option Open) (ran : Option Served) → open_on k ≡ going → goes_on going ran ≡ false → option_map (λ (o : Open). o.job) going ≡ last_served s tr k t → ((u : ℕ) → t ≤ u → u < next → served_at s tr u k ≡ ran) → Followed going ran
      changes going None is off jobs same =
          let none : segment_at s tr t k ≡ [] = segment-none refl (same t (omega arith) more) in
          let closed-now = stops going None is off (same t (omega arith) more) in
          let h = later-but (put open_on k None) (closed schedule first going t) expected closed-now (λ p e. let z : None ≡ Some p = sym (cond-true (eqb k k) None (open_on k) (eq-eqb k k refl)) ∙ e in cc) in
          let same-list : expected ++ segment_at s tr t k ≡ expected = ap (λ xs. expected ++ xs) none ∙ append-nil expected in
          record { compared = rw (same-list, off) h; count = rw (same-list, off) (omega arith); jobs = rw off refl }
      changes going (Some j) is off jobs same =
          let closed-now = stops going (Some j) is off (same t (omega arith) more) in
          let gone : put open_on k None k ≡ None = cond-true (eqb k k) None (open_on k) (eq-eqb k k refl) in
          let h = later-but (put open_on k None) (closed schedule first going t) expected closed-now (λ p e. let z : None ≡ Some p = sym gone ∙ e in cc) in
          let starts = segment-starts j (same t (omega arith) more) (ap (λ l. is_job l j) (sym jobs) ∙ not-before going j off) in
          let o : Open = record { job = j; start = t; place = length expected } in
          let seg : Segment = record { task = j.task; start = t; end = stop_of s tr k j t } in
          let h' = compared-opened s tr schedule expected later (put open_on k None) (closed schedule first going t) k t j h gone (omega (arith, at')) (λ u from before. gets-at (Some j) j u (same u from (omega (arith, at'))) ∙ same-refl j) in
          let h'' = by-functions (put (put open_on k None) k (Some o)) (put open_on k (Some o)) (closed schedule first going t) (expected ++ seg ∷ []) later (put-put open_on k None (Some o)) h' in
          record { compared = rw (starts, off) h''; count = rw (starts, off) (omega (arith, length-append expected (seg ∷ []))); jobs = rw off refl }
