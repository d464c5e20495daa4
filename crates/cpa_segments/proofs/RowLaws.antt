-- The rows of the segments that start at a time, and of those before.
use Rattle.std.proofs.Common.{◌≡◌, ◌∙◌, ℕ, zero, suc, ◌+◌, ◌-◌, ◌<◌, ◌≤◌, List, [], ◌∷◌, ◌++◌, true, false, Option, Some, None, length, refl, sym, ap, subst, arith, append_assoc}
use Rattle.std.proofs.lemmas.Bool.{cond-true, cond-false}
use Rattle.std.proofs.lemmas.List.{append-nil}
use Rattle.std.proofs.lemmas.List.Concat.{flat_map-append}
use Rattle.std.specs.List.{flat_map}
use Rattle.cpa_units.proofs.PlaceLaws.{places, flat_map-places_more}
use Rattle.cpa_model.specs.SystemLists.{SystemLists}
use Rattle.cpa_trace.specs.Trace.{TraceLists}
use Rattle.cpa_sim.specs.declared.jobs.Served.{Served}
use Rattle.cpa_sim.specs.Outcome.{end_of}
use Rattle.cpa_sim.specs.Served.{served_at}
use Rattle.cpa_audit.specs.declared.schedule.Segment.{Segment}
use Rattle.cpa_audit.specs.Segments.{is_job, last_served, stop_of, segment_by, segment_at, starting, started, segments}
use Rattle.cpa_audit.proofs.SegmentLaws.{at-is, starting-is, started-is, started-more, started-zero, started-jump}
use Rattle.cpa_segments.specs.Rows.{row_text, schedule_text}

pub rows-none : (s : SystemLists) → schedule_text s [] ≡ []
unfolding schedule_text
rows-none s = refl

pub rows-append : (s : SystemLists) (xs ys : List Segment) → schedule_text s (xs ++ ys) ≡ schedule_text s xs ++ schedule_text s ys
unfolding schedule_text
rows-append s xs ys = flat_map-append (row_text s) xs ys

pub rows-one : (s : SystemLists) (seg : Segment) → schedule_text s (seg ∷ []) ≡ row_text s seg
unfolding schedule_text
rows-one s seg = append-nil (row_text s seg)

module _ (s : SystemLists) (tr : TraceLists) where
  -- the segment that a resource starts with a tick

  pub starts-none : (t r : ℕ) → served_at s tr t r ≡ None → [] ≡ segment_at s tr t r
  starts-none t r e = sym (at-is s tr t r ∙ ap (segment_by s tr t r) e)

  pub starts-kept : (t r : ℕ) (j : Served) (last : Option Served) → served_at s tr t r ≡ Some j → last ≡ last_served s tr r t → is_job last j ≡ true → [] ≡ segment_at s tr t r
  starts-kept t r j last e l h =
      let h' : is_job (last_served s tr r t) j ≡ true = subst (λ o. is_job o j ≡ true) l h in
      sym (at-is s tr t r ∙ (ap (segment_by s tr t r) e ∙ cond-true _ _ _ h'))

  pub starts-one : (t r : ℕ) (j : Served) (last : Option Served) (seg : Segment) → served_at s tr t r ≡ Some j → last ≡ last_served s tr r t → is_job last j ≡ false
      → seg ≡ record { task = j.task; start = t; end = stop_of s tr r j t } → seg ∷ [] ≡ segment_at s tr t r
  starts-one t r j last seg e l h is =
      let h' : is_job (last_served s tr r t) j ≡ false = subst (λ o. is_job o j ≡ false) l h in
      sym (at-is s tr t r ∙ (ap (segment_by s tr t r) e ∙ (cond-false _ _ _ h' ∙ ap (λ x. x ∷ []) (sym is))))

  -- the rows of the first so many resources at a time
  abbrev pub rows_below : ℕ → ℕ → List ℕ
  rows_below t k = schedule_text s (flat_map (segment_at s tr t) (places k))

  pub below-none : (t : ℕ) → rows_below t 0 ≡ []
  below-none t = rows-none s

  pub below-more : (t k : ℕ) → rows_below t (k + 1) ≡ rows_below t k ++ schedule_text s (segment_at s tr t k)
  below-more t k = ap (schedule_text s) (flat_map-places_more (segment_at s tr t) k) ∙ rows-append s (flat_map (segment_at s tr t) (places k)) (segment_at s tr t k)

  pub below-all : (t : ℕ) → rows_below t (length s.resources) ≡ schedule_text s (starting s tr t)
  below-all t = ap (schedule_text s) (sym (starting-is s tr t))

  -- all lists over more places begin with those over fewer

  prefix : (f : ℕ → List Segment) (k n : ℕ) → (later : List Segment) × (flat_map f (places (k + n)) ≡ flat_map f (places k) ++ later)
  prefix f k zero = ([], (let e : k + 0 ≡ k = omega arith in rw e (sym (append-nil (flat_map f (places k))))))
  prefix f k (suc n) =
      let h = prefix f k n in
      let e : k + suc n ≡ (k + n) + 1 = omega arith in
      (h.0 ++ f (k + n), (rw e (flat_map-places_more f (k + n) ∙ (ap (λ xs. xs ++ f (k + n)) h.1 ∙ append_assoc (flat_map f (places k)) h.0 (f (k + n))))))

  pub below-part : (t k : ℕ) → k < length s.resources → (later : List ℕ) × (schedule_text s (starting s tr t) ≡ (rows_below t k ++ schedule_text s (segment_at s tr t k)) ++ later)
  below-part t k less =
      let h = prefix (segment_at s tr t) (k + 1) (length s.resources - (k + 1)) in
      let e : (k + 1) + (length s.resources - (k + 1)) ≡ length s.resources = omega arith in
      let all : flat_map (segment_at s tr t) (places (length s.resources)) ≡ flat_map (segment_at s tr t) (places (k + 1)) ++ h.0 = subst (λ n. flat_map (segment_at s tr t) (places n) ≡ flat_map (segment_at s tr t) (places (k + 1)) ++ h.0) e h.1 in
      (schedule_text s h.0, sym (below-all t) ∙ (ap (schedule_text s) all ∙ (rows-append s (flat_map (segment_at s tr t) (places (k + 1))) h.0 ∙ ap (λ x. x ++ schedule_text s h.0) (below-more t k))))

  -- along the run

  pub rows-zero : schedule_text s (started s tr 0) ≡ []
  rows-zero = ap (schedule_text s) (started-zero s tr) ∙ rows-none s

  pub started-next : (t next : ℕ) → t < next → ((r u : ℕ) → r < length s.resources → t ≤ u → u < next → served_at s tr u r ≡ served_at s tr t r) → started s tr next ≡ started s tr t ++ starting s tr t
  started-next t next later same =
      let n : ℕ = next - suc t in
      let e : t + suc n ≡ next = omega arith in
      let grown = started-jump s tr t n (λ r u less low high. same r u less low (omega (arith, high))) in
      rw e at grown

  pub rows-next : (t next : ℕ) → started s tr next ≡ started s tr t ++ starting s tr t → schedule_text s (started s tr next) ≡ schedule_text s (started s tr t) ++ schedule_text s (starting s tr t)
  rows-next t next is = ap (schedule_text s) is ∙ rows-append s (started s tr t) (starting s tr t)

  segments-is : segments s tr ≡ started s tr (end_of s tr)
  unfolding segments
  segments-is = refl

  pub rows-part : (t : ℕ) → t < end_of s tr → (later : List ℕ) × (schedule_text s (segments s tr) ≡ (schedule_text s (started s tr t) ++ schedule_text s (starting s tr t)) ++ later)
  rows-part t less =
      let h = prefix (starting s tr) (t + 1) (end_of s tr - (t + 1)) in
      let e : (t + 1) + (end_of s tr - (t + 1)) ≡ end_of s tr = omega arith in
      let all : started s tr (end_of s tr) ≡ started s tr (t + 1) ++ h.0 =
      started-is s tr (end_of s tr) ∙ (subst (λ n. flat_map (starting s tr) (places n) ≡ flat_map (starting s tr) (places (t + 1)) ++ h.0) e h.1 ∙ ap (λ xs. xs ++ h.0) (sym (started-is s tr (t + 1)))) in (
        schedule_text s h.0,
        ap (schedule_text s) (segments-is ∙ all) ∙ (rows-append s (started s tr (t + 1)) h.0
            ∙ ap (λ x. x ++ schedule_text s h.0) (ap (schedule_text s) (started-more s tr t) ∙ rows-append s (started s tr t) (starting s tr t))),
      )

  pub rows-all : (t : ℕ) → t ≡ end_of s tr → schedule_text s (started s tr t) ≡ schedule_text s (segments s tr)
  rows-all t at = ap (λ u. schedule_text s (started s tr u)) at ∙ ap (schedule_text s) (sym segments-is)
