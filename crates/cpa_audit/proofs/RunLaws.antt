-- All resources, followed over a jump.
use Rattle.std.proofs.Common.{◌≡◌, ℕ, zero, suc, ◌+◌, ◌-◌, ◌*◌, ◌<◌, ◌≤◌, ◌++◌, length, List, [], replicate, Bool, true, false, not, cond, eqb, nat_lt, Option, Some, None, option_map, refl, sym, ◌∙◌, ap, subst, inl, inr, arith, length-append, append_assoc}
use mathlib.Core.Path.{fun_ext}
use Rattle.std.specs.List.{flat_map, range_with_len, list_any}
use Rattle.std.proofs.lemmas.Bool.{cases_lt, cases_Bool, eqb-true, eq-eqb, lt-ltb, le-ltb, cond-true, cond-false, false≢true}
use Rattle.std.proofs.lemmas.List.{append-nil, get_or_past, length-replicate}
use Rattle.std.proofs.lemmas.List.Concat.{flat_map-cons}
use Rattle.std.proofs.lemmas.List.Folds.{list_any_at}
use Rattle.cpa_units.proofs.PlaceLaws.{flat_map-places_more}
use Rattle.cpa_model.specs.SystemLists.{SystemLists}
use Rattle.cpa_trace.specs.Trace.{TraceLists}
use Rattle.cpa_sim.specs.declared.jobs.Served.{Served}
use Rattle.cpa_sim.specs.Outcome.{end_of}
use Rattle.cpa_sim.specs.Served.{served_at}
use Rattle.cpa_audit.specs.declared.schedule.Segment.{Segment}
use Rattle.cpa_audit.specs.declared.auditing.Open.{Open}
use Rattle.cpa_audit.specs.declared.auditing.Difference.{Difference}
use Rattle.cpa_audit.specs.Segments.{is_job, last_served, segment_by, segment_at, starting, started, segments}
use Rattle.cpa_audit.specs.Auditing.{goes_on, closed, open_at, put, going_after, first_after, count_after, lies_before, is_settled}
use Rattle.cpa_audit.specs.Compared.{IsCompared, partly, IsFollowed, IsClosing}
use Rattle.cpa_audit.proofs.SegmentLaws.{at-is, starting-is, started-is, started-zero, started-jump, started-later}
use Rattle.cpa_audit.proofs.AuditLaws.{compared-none, compared-later, compared-closed, compared-all, compared-settled}
use Rattle.cpa_audit.specs.Firsts.{IsFirst}
use Rattle.cpa_audit.proofs.FollowLaws.{Followed, followed, put-none}

module _ (s : SystemLists) (tr : TraceLists) (schedule : List Segment) (k t next : ℕ) (opens after : List (Option Open)) (count more : ℕ) (first then : Option Difference) (ran : Option Served)
    (h : IsFollowed s tr schedule k t next opens count first) (there : k < length s.resources) (later : t < next) (within : next ≤ end_of s tr)
    (served : (u : ℕ) → t ≤ u → u < next → served_at s tr u k ≡ ran)
    (long : length after ≡ length opens) (opened : (r : ℕ) → open_at after r ≡ put (open_at opens) k (going_after (open_at opens k) ran t count) r)
    (firsts : then ≡ first_after schedule first (open_at opens k) ran t) (counts : more ≡ count + count_after (open_at opens k) ran) where
  partly-more : partly s tr t (k + 1) ≡ partly s tr t k ++ segment_at s tr t k
  partly-more = ap (λ xs. started s tr t ++ xs) (flat_map-places_more (segment_at s tr t) k) ∙ sym (append_assoc (started s tr t) (flat_map (segment_at s tr t) (range_with_len 0 k)) (segment_at s tr t k))

  at-k : cond (nat_lt k k) next t ≡ t
  at-k = cond-false (nat_lt k k) next t (le-ltb k k (omega arith))

  at-next : cond (nat_lt k (k + 1)) next t ≡ next
  at-next = cond-true (nat_lt k (k + 1)) next t (lt-ltb k (k + 1) (omega arith))

  at-rest : (r : ℕ) → eqb r k ≡ false → cond (nat_lt r (k + 1)) next t ≡ cond (nat_lt r k) next t
  at-rest r other =
      elim (cases_lt r k) [
        | inl below ↦ rw (lt-ltb r k below, lt-ltb r (k + 1) (omega arith)) refl
        | inr above ↦ elim (cases_lt k r) [
          | inl past ↦ rw (le-ltb r k above, le-ltb r (k + 1) (omega arith)) refl
          | inr same ↦ absurd (false≢true (sym other ∙ eq-eqb r k (omega arith)))
        ]
      ]

  step : Followed s tr schedule (partly s tr t k) (λ r. cond (nat_lt r k) next t) (λ r. cond (nat_lt r (k + 1)) next t) (open_at opens) first k t next h.compared at-k at-next at-rest later within (open_at opens k) ran
  step = followed s tr schedule (partly s tr t k) (λ r. cond (nat_lt r k) next t) (λ r. cond (nat_lt r (k + 1)) next t) (open_at opens) first k t next h.compared at-k at-next at-rest later within (open_at opens k) ran refl
      (h.jobs k there ∙ ap (last_served s tr k) at-k) served

  last-before : last_served s tr k next ≡ ran
  last-before =
      let e : next ≡ suc (next - 1) = omega arith in
      let h : last_served s tr k (suc (next - 1)) ≡ ran = served (next - 1) (omega arith) (omega arith) in
      subst (λ v. last_served s tr k v ≡ ran) (sym e) h

  pub followed-more : IsFollowed s tr schedule (k + 1) t next after more then
  followed-more =
      let f : ℕ → Option Open = put (open_at opens) k (going_after (open_at opens k) ran t count) in
      let c0 = subst (λ n. IsCompared s tr schedule (partly s tr t k ++ segment_at s tr t k) (λ r. cond (nat_lt r (k + 1)) next t) (put (open_at opens) k (going_after (open_at opens k) ran t n)) (first_after schedule first (open_at opens k) ran t)) (sym h.counted) step.compared in
      let c1 = subst (λ es. IsCompared s tr schedule es (λ r. cond (nat_lt r (k + 1)) next t) f (first_after schedule first (open_at opens k) ran t)) (sym partly-more) c0 in
      let c2 = subst (λ d. IsCompared s tr schedule (partly s tr t (k + 1)) (λ r. cond (nat_lt r (k + 1)) next t) f d) (sym firsts) c1 in
      let c3 = subst (λ g. IsCompared s tr schedule (partly s tr t (k + 1)) (λ r. cond (nat_lt r (k + 1)) next t) g then) (sym (fun_ext opened)) c2 in
      let j0 = subst (λ n. option_map (λ (o : Open). o.job) (going_after (open_at opens k) ran t n) ≡ ran) (sym h.counted) step.jobs in
      record {
        long = long ∙ h.long;
        counted = counts ∙ (ap (λ n. n + count_after (open_at opens k) ran) h.counted ∙ (sym step.count ∙ ap length (sym partly-more)));
        compared = c3;
        jobs = λ r less. elim (cases_Bool (eqb r k)) [
          | inl here ↦
              let same : r ≡ k = eqb-true r k here in
              let e : open_at after k ≡ going_after (open_at opens k) ran t count = opened k ∙ cond-true (eqb k k) _ _ (eq-eqb k k refl) in
              let got : last_served s tr k next ≡ ran = last-before in
              rw (same, at-next) (ap (option_map (λ (o : Open). o.job)) e ∙ (j0 ∙ sym got))
          | inr other ↦
              let e : open_at after r ≡ open_at opens r = opened r ∙ cond-false (eqb r k) _ _ other in
              ap (option_map (λ (o : Open). o.job)) e ∙ (h.jobs r less ∙ ap (last_served s tr r) (sym (at-rest r other)))
        ];
      }

-- at the start
open-none : (n r : ℕ) → open_at (replicate n None) r ≡ None
open-none zero r = refl
open-none (suc n) zero = refl
open-none (suc n) (suc r) = open-none n r

pub followed-none : (s : SystemLists) (tr : TraceLists) (schedule : List Segment) (opens : List (Option Open)) (count : ℕ) (first : Option Difference) → opens ≡ replicate (length s.resources) None → count ≡ 0 → first ≡ None
    → IsFollowed s tr schedule 0 0 0 opens count first
followed-none s tr schedule opens count first o n d =
    let none : (λ r. None) ≡ open_at opens = fun_ext (λ r. sym (ap (λ os. open_at os r) o ∙ open-none (length s.resources) r)) in
    let start : partly s tr 0 0 ≡ [] = ap (λ xs. xs ++ []) (started-zero s tr) in
    let c0 = compared-later s tr schedule [] (λ r. 0) (λ r. cond (nat_lt r 0) 0 0) (λ r. None) None (compared-none s tr schedule) (λ r o e. let z : None ≡ Some o = e in cc) in
    let c1 = subst (λ es. IsCompared s tr schedule es (λ r. cond (nat_lt r 0) 0 0) (λ r. None) None) (sym start) c0 in
    let c2 = subst (λ f. IsCompared s tr schedule (partly s tr 0 0) (λ r. cond (nat_lt r 0) 0 0) f None) none c1 in
    let c3 = subst (λ f. IsCompared s tr schedule (partly s tr 0 0) (λ r. cond (nat_lt r 0) 0 0) (open_at opens) f) (sym d) c2 in
    record {
      long = ap length o ∙ length-replicate (length s.resources) None;
      counted = n ∙ ap length (sym start);
      compared = c3;
      jobs = λ r less.
          let z : cond (nat_lt r 0) 0 0 ≡ 0 = cond-false (nat_lt r 0) 0 0 (le-ltb r 0 (omega arith)) in
          let e : open_at opens r ≡ None = ap (λ os. open_at os r) o ∙ open-none (length s.resources) r in
          ap (option_map (λ (o : Open). o.job)) e ∙ ap (last_served s tr r) (sym z);
    }

-- before any resource was followed further
pub followed-first : (s : SystemLists) (tr : TraceLists) (schedule : List Segment) (t next : ℕ) (opens : List (Option Open)) (count : ℕ) (first : Option Difference) → IsFollowed s tr schedule 0 t t opens count first → IsFollowed s tr schedule 0 t next opens count first
followed-first s tr schedule t next opens count first h =
    let a : (r : ℕ) → cond (nat_lt r 0) t t ≡ t = λ r. cond-false (nat_lt r 0) t t (le-ltb r 0 (omega arith)) in
    let b : (r : ℕ) → cond (nat_lt r 0) next t ≡ t = λ r. cond-false (nat_lt r 0) next t (le-ltb r 0 (omega arith)) in
    record {
      long = h.long;
      counted = h.counted;
      compared = compared-later s tr schedule (partly s tr t 0) (λ r. cond (nat_lt r 0) t t) (λ r. cond (nat_lt r 0) next t) (open_at opens) first h.compared (λ r o e. (omega (arith, a r, b r), λ u from before. absurd (omega (arith, a r, b r, from, before))));
      jobs = λ r less. h.jobs r less ∙ ap (last_served s tr r) (a r ∙ sym (b r));
    }

-- once all resources were followed
pub followed-all : (s : SystemLists) (tr : TraceLists) (schedule : List Segment) (t next : ℕ) (opens : List (Option Open)) (count : ℕ) (first : Option Difference) → t < next
    → ((r u : ℕ) → r < length s.resources → t ≤ u → u < next → served_at s tr u r ≡ served_at s tr t r) → IsFollowed s tr schedule (length s.resources) t next opens count first → IsFollowed s tr schedule 0 next next opens count first
followed-all s tr schedule t next opens count first later same h =
    let n : ℕ = next - suc t in
    let e : t + suc n ≡ next = omega arith in
    let grown : started s tr next ≡ started s tr t ++ starting s tr t = let g = started-jump s tr t n (λ r u less low high. same r u less low (omega (arith, high))) in rw e at g in
    let all : partly s tr t (length s.resources) ≡ partly s tr next 0 = ap (λ xs. started s tr t ++ xs) (sym (starting-is s tr t)) ∙ (sym grown ∙ sym (append-nil (started s tr next))) in
    let c = subst (λ es. IsCompared s tr schedule es (λ r. cond (nat_lt r (length s.resources)) next t) (open_at opens) first) all h.compared in
    let in-range : (r : ℕ) (o : Open) → open_at opens r ≡ Some o → r < length s.resources = λ r o is.
    elim (cases_lt r (length s.resources)) [
      | inl less ↦ less
      | inr past ↦ let none : open_at opens r ≡ None = get_or_past opens r None (omega (arith, h.long, past)) in let z : None ≡ Some o = sym none ∙ is in cc
    ] in
    record {
      long = h.long;
      counted = h.counted ∙ ap length all;
      compared = compared-later s tr schedule (partly s tr next 0) (λ r. cond (nat_lt r (length s.resources)) next t) (λ r. cond (nat_lt r 0) next next) (open_at opens) first c
          (λ r o is.
          let there : cond (nat_lt r (length s.resources)) next t ≡ next = cond-true _ next t (lt-ltb r (length s.resources) (in-range r o is)) in
          let same-time : cond (nat_lt r 0) next next ≡ next = cond-false _ next next (le-ltb r 0 (omega arith)) in
          rw (there, same-time) (omega arith, λ u from before. absurd (omega arith)));
      jobs = λ r less.
          let there : cond (nat_lt r (length s.resources)) next t ≡ next = cond-true _ next t (lt-ltb r (length s.resources) less) in
          let same-time : cond (nat_lt r 0) next next ≡ next = cond-false _ next next (le-ltb r 0 (omega arith)) in
          h.jobs r less ∙ (ap (last_served s tr r) there ∙ ap (last_served s tr r) (sym same-time));
    }

-- ---- not too many

segment-few : (s : SystemLists) (tr : TraceLists) (t r : ℕ) → length (segment_at s tr t r) ≤ 1
segment-few s tr t r = rw (at-is s tr t r) (go (served_at s tr t r))
  where
    go : (o : Option Served) → length (segment_by s tr t r o) ≤ 1
    go None = omega arith
    go (Some j) = elim (cases_Bool (is_job (last_served s tr r t) j)) [ inl e ↦ rw e (omega arith) | inr e ↦ rw e (omega arith) ]

flat-one : (f : ℕ → List Segment) (a n : ℕ) → ((r : ℕ) → length (f r) ≤ 1) → length (flat_map f (range_with_len a n)) ≤ n
flat-one f a zero few = omega arith
flat-one f a (suc n) few =
    omega (arith, ap length (flat_map-cons f a (range_with_len (a + 1) n)), length-append (f a) (flat_map f (range_with_len (a + 1) n)), few a, flat-one f (a + 1) n few)

flat-many : (f : ℕ → List Segment) (a n : ℕ) → ((r : ℕ) → length (f r) ≤ 128) → length (flat_map f (range_with_len a n)) ≤ n * 128
flat-many f a zero few = omega arith
flat-many f a (suc n) few =
    omega (arith, ap length (flat_map-cons f a (range_with_len (a + 1) n)), length-append (f a) (flat_map f (range_with_len (a + 1) n)), few a, flat-many f (a + 1) n few)

pub partly-few : (s : SystemLists) (tr : TraceLists) (t k : ℕ) → length s.resources ≤ 128 → length (partly s tr t k) ≤ t * 128 + k
partly-few s tr t k few =
    let each : (u : ℕ) → length (starting s tr u) ≤ 128 = λ u. rw (starting-is s tr u) (omega (arith, flat-one (segment_at s tr u) 0 (length s.resources) (segment-few s tr u))) in
    let before : length (started s tr t) ≤ t * 128 = rw (started-is s tr t) (flat-many (starting s tr) 0 t each) in
    omega (arith, before, length-append (started s tr t) (flat_map (segment_at s tr t) (range_with_len 0 k)), flat-one (segment_at s tr t) 0 k (segment-few s tr t))

-- ---- at the end of the run

goes-none : (g : Option Open) → goes_on g None ≡ false
goes-none None = refl
goes-none (Some o) = refl

pub closing-none : (s : SystemLists) (tr : TraceLists) (schedule : List Segment) (t : ℕ) (opens : List (Option Open)) (count : ℕ) (first : Option Difference) → t ≡ end_of s tr → IsFollowed s tr schedule 0 t t opens count first
    → IsClosing s tr schedule (segments s tr) 0 t opens first
unfolding segments
closing-none s tr schedule t opens count first at h =
    let a : (r : ℕ) → cond (nat_lt r 0) t t ≡ t = λ r. cond-false (nat_lt r 0) t t (le-ltb r 0 (omega arith)) in
    let es : partly s tr t 0 ≡ started s tr (end_of s tr) = append-nil (started s tr t) ∙ ap (started s tr) at in
    let c = compared-later s tr schedule (partly s tr t 0) (λ r. cond (nat_lt r 0) t t) (λ r. t) (open_at opens) first h.compared (λ r o e. (omega (arith, a r), λ u from before. absurd (omega (arith, a r, from, before)))) in
    record { long = h.long; compared = subst (λ xs. IsCompared s tr schedule xs (λ r. t) (open_at opens) first) es c; none = λ r less. absurd (omega arith) }

pub closing-more : (s : SystemLists) (tr : TraceLists) (schedule expected : List Segment) (k t count : ℕ) (opens after : List (Option Open)) (first then : Option Difference) → t ≡ end_of s tr → IsClosing s tr schedule expected k t opens first
    → length after ≡ length opens → ((r : ℕ) → open_at after r ≡ put (open_at opens) k (going_after (open_at opens k) None t count) r) → then ≡ first_after schedule first (open_at opens k) None t
    → IsClosing s tr schedule expected (k + 1) t after then
closing-more s tr schedule expected k t count opens after first then at h long opened firsts =
    let off = goes-none (open_at opens k) in
    let gone : going_after (open_at opens k) None t count ≡ None = cond-false (goes_on (open_at opens k) None) _ _ off in
    let opened' : (r : ℕ) → put (open_at opens) k None r ≡ open_at after r = λ r. sym (opened r ∙ ap (λ o. put (open_at opens) k o r) gone) in
    let now : closed schedule first (open_at opens k) t ≡ then = sym (firsts ∙ cond-false (goes_on (open_at opens k) None) _ _ off) in
    let c = one (open_at opens k) refl in
    let c1 = subst (λ f. IsCompared s tr schedule expected (λ r. t) f (closed schedule first (open_at opens k) t)) (fun_ext opened') c in
    record {
      long = long ∙ h.long;
      compared = subst (λ d. IsCompared s tr schedule expected (λ r. t) (open_at after) d) now c1;
      none = λ r less. elim (cases_Bool (eqb r k)) [
        | inl here ↦ sym (opened' r) ∙ cond-true (eqb r k) _ _ here
        | inr other ↦ sym (opened' r) ∙ (cond-false (eqb r k) _ _ other ∙ h.none r (not-same r k other less))
      ];
    }
  where
    not-same : (r k : ℕ) → eqb r k ≡ false → r < k + 1 → r < k
    not-same r k other less = elim (cases_lt r k) [ inl l ↦ l | inr g ↦ absurd (false≢true (sym other ∙ eq-eqb r k (omega arith))) ]

    one : (g : Option Open) → open_at opens k ≡ g → IsCompared s tr schedule expected (λ r. t) (put (open_at opens) k None) (closed schedule first g t)
    one None is = subst (λ f. IsCompared s tr schedule expected (λ r. t) f first) (fun_ext (λ r. sym (put-none (open_at opens) k is r))) h.compared
    one (Some o) is = compared-closed s tr schedule expected (λ r. t) (open_at opens) first k o h.compared is (omega (arith, at)) (λ less. absurd (omega (arith, at, less)))

pub closing-all : (s : SystemLists) (tr : TraceLists) (schedule expected : List Segment) (k t : ℕ) (opens : List (Option Open)) (first : Option Difference) → length s.resources ≤ k → IsClosing s tr schedule expected k t opens first → IsFirst schedule expected first
closing-all s tr schedule expected k t opens first all h =
    compared-all s tr schedule expected (λ r. t) (open_at opens) first h.compared
    (λ r. elim (cases_lt r k) [ inl less ↦ h.none r less | inr past ↦ get_or_past opens r None (omega (arith, h.long, past, all)) ])

pub count-none : (g : Option Open) → count_after g None ≡ 0
count-none None = refl
count-none (Some o) = refl

pub all-segments : (s : SystemLists) (tr : TraceLists) (t : ℕ) → t ≡ end_of s tr → partly s tr t 0 ≡ segments s tr
unfolding segments
all-segments s tr t at = append-nil (started s tr t) ∙ ap (started s tr) at

-- ---- once the first difference of all is known

not-true : (b : Bool) → not b ≡ true → b ≡ false
not-true true e = absurd (false≢true e)
not-true false e = refl

none-before : (opens : List (Option Open)) (place : ℕ) → list_any (lies_before place) opens ≡ false → (r : ℕ) (o : Open) → open_at opens r ≡ Some o → place ≤ o.place
none-before opens place none r o is =
    elim (cases_lt o.place place) [
      | inr past ↦ past
      | inl before ↦ elim (cases_lt r (length opens)) [
        | inl less ↦
            let at : lies_before place (open_at opens r) ≡ true = ap (lies_before place) is ∙ lt-ltb o.place place before in
            absurd (false≢true (sym none ∙ list_any_at (lies_before place) opens r None less at))
        | inr past ↦ let z : None ≡ Some o = sym (get_or_past opens r None past) ∙ is in cc
      ]
    ]

pub settled-first : (s : SystemLists) (tr : TraceLists) (schedule : List Segment) (t : ℕ) (opens : List (Option Open)) (count : ℕ) (first : Option Difference) → t ≤ end_of s tr → IsFollowed s tr schedule 0 t t opens count first
    → is_settled opens first ≡ true → IsFirst schedule (segments s tr) first
unfolding segments
settled-first s tr schedule t opens count None within h settled = absurd (false≢true settled)
settled-first s tr schedule t opens count (Some d) within h settled =
    let more = started-later s tr t (end_of s tr - t) in
    let at : t + (end_of s tr - t) ≡ end_of s tr = omega (arith, within) in
    let all : partly s tr t 0 ++ more.rest ≡ started s tr (end_of s tr) = ap (λ xs. xs ++ more.rest) (append-nil (started s tr t)) ∙ (sym more.is ∙ ap (started s tr) at) in
    let none = none-before opens d.place (not-true (list_any (lies_before d.place) opens) settled) in
    subst (λ es. IsFirst schedule es (Some d)) all (compared-settled s tr schedule (partly s tr t 0) more.rest (λ r. cond (nat_lt r 0) t t) (open_at opens) d h.compared none)

pub settled-some : (opens : List (Option Open)) (first : Option Difference) → is_settled opens first ≡ true → first ≡ None → ⊥
settled-some opens None settled e = false≢true settled
settled-some opens (Some d) settled e = let z : Some d ≡ None = e in cc
