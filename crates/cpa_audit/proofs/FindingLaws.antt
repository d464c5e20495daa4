-- Where two lists of segments first differ.
use Rattle.std.proofs.Common.{◌≡◌, ℕ, zero, suc, ◌+◌, ◌<◌, ◌≤◌, length, List, [], ◌∷◌, Bool, true, false, cond, eqb, ◌&&◌, nat_lt, Option, Some, None, refl, sym, ◌∙◌, ap, subst, inl, inr, arith}
use Rattle.std.specs.Prelude.{slice_get}
use Rattle.std.specs.List.{Contains}
use Rattle.std.proofs.lemmas.Bool.{cases_lt, cases_Bool, eqb-true, eq-eqb, lt-ltb, le-ltb, false≢true}
use Rattle.cpa_model.specs.SystemLists.{SystemLists}
use Rattle.cpa_audit.specs.declared.schedule.Segment.{Segment}
use Rattle.cpa_audit.specs.declared.auditing.Difference.{Difference}
use Rattle.cpa_audit.specs.declared.finding.Finding.TheVariants.{Same, Wrong}
use Rattle.cpa_audit.specs.Findings.{same_segment, difference_from, finding_of}
use Rattle.cpa_audit.specs.Auditing.{has_segment, found}
use Rattle.cpa_audit.specs.Firsts.{AgreeBelow, IsFirst}
use Rattle.cpa_audit.specs.AuditText.{NamesTasks}
use Rattle.cpa_audit.specs.Laws.{SameIsEqual}
use Rattle.cpa_audit.proofs.ListLaws.{head-in, tail-in}

some-one : (a b : Segment) → Some a ≡ Some b → a ≡ b
some-one a b e = cc

-- the first that differs
pub difference-is : (place p : ℕ) (gs es : List Segment) (seg : Segment) → slice_get es p ≡ Some seg → AgreeBelow gs es p → has_segment (slice_get gs p) seg ≡ false → difference_from place gs es ≡ Wrong (place + p) (Some seg)
difference-is place p gs [] seg there agree differs = absurd (none-there p there)
  where
    none-there : (p : ℕ) → slice_get [] p ≡ Some seg → ⊥
    none-there p e = cc
difference-is place zero [] (e ∷ es) seg there agree differs =
    let same : e ≡ seg = some-one e seg there in
    let at : place + 0 ≡ place = omega arith in
    rw (at, same) refl
difference-is place zero (g ∷ gs) (e ∷ es) seg there agree differs =
    let same : e ≡ seg = some-one e seg there in
    let at : place + 0 ≡ place = omega arith in
    rw (at, same, differs) refl
difference-is place (suc p) [] (e ∷ es) seg there agree differs = absurd (false≢true (agree 0 e (omega arith) refl))
difference-is place (suc p) (g ∷ gs) (e ∷ es) seg there agree differs =
    let first : same_segment g e ≡ true = agree 0 e (omega arith) refl in
    let at : (place + 1) + p ≡ place + suc p = omega arith in
    let rest = difference-is (place + 1) p gs es seg there (λ q x less h. agree (suc q) x (omega arith) h) differs in
    rw first (rest ∙ ap (λ n. Wrong n (Some seg)) at)

-- none differs
pub agreement-is : (place : ℕ) (gs es : List Segment) → AgreeBelow gs es (length es) → difference_from place gs es ≡ cond (nat_lt (length es) (length gs)) (Wrong (place + length es) None) Same
agreement-is place [] [] agree = refl
agreement-is place (g ∷ gs) [] agree = let at : place + 0 ≡ place = omega arith in rw (lt-ltb 0 (length (g ∷ gs)) (omega arith), at) refl
agreement-is place [] (e ∷ es) agree = absurd (false≢true (agree 0 e (omega arith) refl))
agreement-is place (g ∷ gs) (e ∷ es) agree =
    let first : same_segment g e ≡ true = agree 0 e (omega arith) refl in
    let rest = agreement-is (place + 1) gs es (λ q x less h. agree (suc q) x (omega arith) h) in
    let at : (place + 1) + length es ≡ place + suc (length es) = omega arith in
    rw first
    (elim (cases_lt (length es) (length gs)) [
      | inl h ↦
          let a = rw (lt-ltb (length es) (length gs) h) at rest in
          rw (lt-ltb (suc (length es)) (suc (length gs)) (omega arith)) (a ∙ ap (λ n. Wrong n None) at)
      | inr h ↦
          let a = rw (le-ltb (length es) (length gs) h) at rest in
          rw (le-ltb (suc (length es)) (suc (length gs)) (omega arith)) a
    ])

pub found-is : (schedule expected : List Segment) (count : ℕ) (first : Option Difference) → count ≡ length expected → IsFirst schedule expected first → found schedule count first ≡ finding_of schedule expected
unfolding finding_of
found-is schedule expected count (Some d) all is =
    let h = is.differs d refl in
    let at : 1 + d.place ≡ d.place + 1 = omega arith in
    sym (difference-is 1 d.place schedule expected d.expected h.0 h.2 h.1 ∙ ap (λ n. Wrong n (Some d.expected)) at)
found-is schedule expected count None all is =
    let at : 1 + length expected ≡ length expected + 1 = omega arith in
    rw all (sym (agreement-is 1 schedule expected (is.agrees refl) ∙ ap (λ n. cond (nat_lt (length expected) (length schedule)) (Wrong n None) Same) at))

-- a first difference is what is found, however many segments there are
pub found-first : (schedule expected : List Segment) (count : ℕ) (first : Option Difference) → (first ≡ None → ⊥) → IsFirst schedule expected first → found schedule count first ≡ finding_of schedule expected
found-first schedule expected count (Some d) some is = found-is schedule expected (length expected) (Some d) refl is
found-first schedule expected count None some is = absurd (some refl)

-- it lies within the schedule, or right behind it
pub place-within : (schedule expected : List Segment) (d : Difference) → IsFirst schedule expected (Some d) → d.place ≤ length schedule
place-within schedule expected d is = let h = is.differs d refl in go schedule expected d.place d.expected h.0 h.2
  where
    go : (gs es : List Segment) (p : ℕ) (seg : Segment) → slice_get es p ≡ Some seg → AgreeBelow gs es p → p ≤ length gs
    go gs es zero seg there agree = omega arith
    go [] [] (suc p) seg there agree = cc
    go [] (e ∷ es) (suc p) seg there agree = absurd (false≢true (agree 0 e (omega arith) refl))
    go (g ∷ gs) [] (suc p) seg there agree = cc
    go (g ∷ gs) (e ∷ es) (suc p) seg there agree = let rest = go gs es p seg there (λ q x less h. agree (suc q) x (omega arith) h) in omega arith

-- ---- what is found

same-segment : (a b : Segment) → same_segment a b ≡ true → a ≡ b
same-segment a b e =
    let h = both (eqb a.task.0 b.task.0) (eqb a.start b.start && eqb a.end b.end) e in
    let k = both (eqb a.start b.start) (eqb a.end b.end) h.1 in
    let p : a.task.0 ≡ b.task.0 = eqb-true a.task.0 b.task.0 h.0 in
    let q : a.start ≡ b.start = eqb-true a.start b.start k.0 in
    let r : a.end ≡ b.end = eqb-true a.end b.end k.1 in
    λ i. record { task = record { 0 = p i }; start = q i; end = r i }
  where
    both : (a b : Bool) → (a && b) ≡ true → (a ≡ true) × (b ≡ true)
    both true b e = (refl, e)
    both false b e = absurd (false≢true e)

same-itself : (a : Segment) → same_segment a a ≡ true
same-itself a = rw (eq-eqb a.task.0 a.task.0 refl, eq-eqb a.start a.start refl, eq-eqb a.end a.end refl) refl

same-then : (place : ℕ) (gs es : List Segment) → difference_from place gs es ≡ Same → gs ≡ es
same-then place [] [] h = refl
same-then place [] (e ∷ es) h = let z : Wrong place (Some e) ≡ Same = h in cc
same-then place (g ∷ gs) [] h = let z : Wrong place None ≡ Same = h in cc
same-then place (g ∷ gs) (e ∷ es) h =
    elim (cases_Bool (same_segment g e)) [
      | inl same ↦
          let rest : gs ≡ es = same-then (place + 1) gs es (rw same at h) in
          ap (λ x. x ∷ gs) (same-segment g e same) ∙ ap (λ xs. e ∷ xs) rest
      | inr other ↦ let z : Wrong place (Some e) ≡ Same = rw other at h in cc
    ]

none-then : (place : ℕ) (gs : List Segment) → difference_from place gs gs ≡ Same
none-then place [] = refl
none-then place (g ∷ gs) = rw (same-itself g) (none-then (place + 1) gs)

pub same-is-equal : SameIsEqual
unfolding finding_of
same-is-equal schedule expected = (same-then 1 schedule expected, λ e. ap (difference_from 1 schedule) (sym e) ∙ none-then 1 schedule)

-- whoever is expected is in the list
expected-named : (s : SystemLists) (e : Segment) → e.task.0 < length s.tasks → (x : Segment) → Some e ≡ Some x → x.task.0 < length s.tasks
expected-named s e there x is = subst (λ (y : Segment). y.task.0 < length s.tasks) (some-one e x is) there

named-from : (s : SystemLists) (place : ℕ) (gs es : List Segment) → ((seg : Segment) → Contains es seg → seg.task.0 < length s.tasks) → NamesTasks s (difference_from place gs es)
named-from s place [] [] all = tt
named-from s place [] (e ∷ es) all = expected-named s e (all e (head-in e es))
named-from s place (g ∷ gs) [] all = λ x is. let z : None ≡ Some x = is in cc
named-from s place (g ∷ gs) (e ∷ es) all =
    elim (cases_Bool (same_segment g e)) [
      | inl same ↦ rw same (named-from s (place + 1) gs es (λ seg h. all seg (tail-in e es seg h)))
      | inr other ↦ rw other (expected-named s e (all e (head-in e es)))
    ]

pub finding-names : (s : SystemLists) (schedule expected : List Segment) → ((seg : Segment) → Contains expected seg → seg.task.0 < length s.tasks) → NamesTasks s (finding_of schedule expected)
unfolding finding_of
finding-names s schedule expected all = named-from s 1 schedule expected all
