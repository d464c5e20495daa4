-- Lists without repetition, what stands before a member, and lexicographic order.
use Rattle.std.proofs.Common.{◌≡◌, ◌≢◌, ℕ, suc, ◌+◌, ◌<◌, ◌≤◌, ◌==◌, ◌||◌, ◌⊎◌, ◌++◌, nat_lt, Bool, true, false, cond, List, [], ◌∷◌, length, slice_index_or, refl, sym, ◌∙◌, subst, inl, inr, arith, ◌&&◌}
use Rattle.std.specs.List.{AllPairs, list_any}
use Rattle.std.proofs.lemmas.Bool.{cases_Bool, cases_lt, false≢true, eqb-true, eq-eqb, or_cases, or_parts, lt-ltb, le-ltb}
use Rattle.std.proofs.lemmas.List.Folds.{list_any-append}
use Rattle.cpa_assign.specs.Orders.{is_member, place_in, IsLexAtMost}

-- whether j stands before i in a list
abbrev pub is_before : List ℕ → ℕ → ℕ → Bool
is_before [] i j = false
is_before (k ∷ o) i j = cond (k == i) false (j == k || is_before o i j)

-- no member twice
abbrev pub AreOnce : List ℕ → Type 0
AreOnce [] = Unit {0}
AreOnce (k ∷ o) = (is_member o k ≡ false) × AreOnce o

pub member-cons : (k : ℕ) (o : List ℕ) (i : ℕ) → is_member (k ∷ o) i ≡ (k == i || is_member o i)
member-cons k o i = refl

pub place-cons : (k : ℕ) (o : List ℕ) (i : ℕ) → place_in (k ∷ o) i ≡ cond (k == i) 0 (1 + place_in o i)
place-cons k o i = elim (cases_Bool (k == i)) [ inl e ↦ rw e refl | inr e ↦ rw e refl ]

pub same_place : (a : ℕ) → (a == a) ≡ true
same_place a = eq-eqb a a refl

-- what is no member differs from each
differ-head : (k : ℕ) (o : List ℕ) → ((j : ℕ) (d : ℕ) → j < length o → k ≢ slice_index_or o j d) → is_member o k ≡ false
differ-head k [] h = refl
differ-head k (m ∷ o) h =
    elim (cases_Bool (m == k)) [
      | inl same ↦ absurd (h 0 0 (omega arith) (sym (eqb-true m k same)))
      | inr other ↦ rw other (differ-head k o (λ j d less. h (suc j) d (omega (arith, less))))
    ]

pub once-from : (o : List ℕ) → AllPairs (λ i j. i ≢ j) o → AreOnce o
once-from [] h = tt
once-from (k ∷ o) h =
    (differ-head k o (λ j d less. h 0 (suc j) d (omega arith) (omega (arith, less))), once-from o (λ i j d lt le. h (suc i) (suc j) d (omega (arith, lt)) (omega (arith, le))))

pub flip-no : (a b : ℕ) → (a == b) ≡ false → (b == a) ≡ false
flip-no a b h =
    elim (cases_Bool (b == a)) [
      | inl same ↦ absurd (false≢true (sym h ∙ eq-eqb a b (sym (eqb-true b a same))))
      | inr other ↦ other
    ]

lt-more : (a b : ℕ) → nat_lt (1 + a) (1 + b) ≡ nat_lt a b
lt-more a b =
    elim (cases_lt a b) [
      | inl less ↦ lt-ltb (1 + a) (1 + b) (omega arith) ∙ sym (lt-ltb a b less)
      | inr more ↦ le-ltb (1 + a) (1 + b) (omega arith) ∙ sym (le-ltb a b more)
    ]

pub and-true : (b : Bool) → (b && true) ≡ b
and-true true = refl
and-true false = refl

pub or-true : (b : Bool) → (b || true) ≡ true
or-true true = refl
or-true false = refl

-- a member differs from what is none
pub differs : (p : List ℕ) (k h : ℕ) → is_member p k ≡ false → is_member p h ≡ true → (k == h) ≡ false
differs p k h none there =
    elim (cases_Bool (k == h)) [
      | inl same ↦ absurd (false≢true (sym none ∙ subst (λ (n : ℕ). is_member p n ≡ true) (sym (eqb-true k h same)) there))
      | inr other ↦ other
    ]

passing_member : (p : List ℕ) (test : ℕ → Bool) → list_any test p ≡ true → (m : ℕ) × (is_member p m ≡ true) × (test m ≡ true)
passing_member [] test some = absurd (false≢true some)
passing_member (k ∷ p) test some =
    elim (cases_Bool (test k)) [
      | inl passes ↦ (k, rw (same_place k) refl, passes)
      | inr fails ↦
          let it = passing_member p test (rw (← some, fails) refl) in
          (it.0, rw it.1 (or-true (k == it.0)), it.2)
    ]

member_passing : (p : List ℕ) (test : ℕ → Bool) (j : ℕ) → is_member p j ≡ true → test j ≡ true → list_any test p ≡ true
member_passing [] test j there passes = absurd (false≢true there)
member_passing (k ∷ p) test j there passes =
    elim (cases_Bool (k == j)) [
      | inl here ↦ rw (eqb-true k j here, passes) refl
      | inr past ↦ rw (member_passing p test j (rw (← there, past) refl) passes) (or-true (test k))
    ]

-- where j is a member, it stands before i just where its place is less
pub before-place : (o : List ℕ) (i j : ℕ) → is_member o i ≡ true → is_member o j ≡ true → is_before o i j ≡ nat_lt (place_in o j) (place_in o i)
before-place [] i j h l = absurd (false≢true h)
before-place (k ∷ o) i j h l =
    elim (cases_Bool (k == i)) [
      | inl here ↦ rw (place-cons k o i, here) (sym (le-ltb (place_in (k ∷ o) j) 0 (omega arith)))
      | inr other ↦ elim (cases_Bool (k == j)) [
        | inl first ↦ rw (place-cons k o i, other, place-cons k o j, first, ← eqb-true k j first, same_place k) (sym (lt-ltb 0 (1 + place_in o i) (omega arith)))
        | inr later ↦
            let rest = before-place o i j (rw (← h, other) refl) (rw (← l, later) refl) in
            rw (place-cons k o i, other, place-cons k o j, later, flip-no k j later, lt-more (place_in o j) (place_in o i)) rest
      ]
    ]

-- ---- lexicographic order

-- a list that is lexicographically below another stays so whatever is put behind it, or it begins the other
pub lex-split : (xs ys : List ℕ) → IsLexAtMost xs ys → ((i : ℕ) → IsLexAtMost (xs ++ i ∷ []) ys) ⊎ ((rest : List ℕ) × (ys ≡ xs ++ rest))
lex-split [] ys h = inr (ys, refl)
lex-split (x ∷ xs) [] h = absurd h
lex-split (x ∷ xs) (y ∷ ys) (inl less) = inl (λ i. inl less)
lex-split (x ∷ xs) (y ∷ ys) (inr same) =
    elim (lex-split xs ys same.1) [
      | inl below ↦ inl (λ i. inr (same.0, below i))
      | inr begun ↦ inr (begun.0, rw (same.0, begun.1) refl)
    ]

pub lex-next : (xs : List ℕ) (i h : ℕ) (rest : List ℕ) → i ≤ h → IsLexAtMost (xs ++ i ∷ []) (xs ++ h ∷ rest)
lex-next [] i h rest le =
    elim (cases_lt i h) [
      | inl less ↦ inl less
      | inr most ↦ inr (omega arith, tt)
    ]
lex-next (x ∷ xs) i h rest le = inr (refl, lex-next xs i h rest le)

-- ---- what stands before a member in a list of two parts

pub once-parts : (a : List ℕ) (h : ℕ) (o : List ℕ) → AreOnce (a ++ h ∷ o) → (is_member a h ≡ false) × (is_member o h ≡ false)
once-parts [] h o once = (refl, once.0)
once-parts (k ∷ a) h o once =
    let rest = once-parts a h o once.1 in
    elim (cases_Bool (k == h)) [
      | inl same ↦
          let here : is_member (a ++ h ∷ o) k ≡ true = list_any-append (λ j. j == k) a (h ∷ o) ∙ (rw (eqb-true k h same, same_place h) (or-true (is_member a h))) in
          absurd (false≢true (sym once.0 ∙ here))
      | inr other ↦ (rw other rest.0, rest.1)
    ]

pub before-split : (a : List ℕ) (h : ℕ) (o : List ℕ) (j : ℕ) → is_member (a ++ h ∷ o) j ≡ true → is_member o j ≡ false → (j == h) ≡ false → is_member a h ≡ false → is_before (a ++ h ∷ o) h j ≡ true
before-split [] h o j there low other first = absurd (false≢true (sym (rw (flip-no j h other) low) ∙ there))
before-split (k ∷ a) h o j there low other first =
    let parts = or_parts (k == h) (is_member a h) first in
    elim (cases_Bool (k == j)) [
      | inl here ↦ rw (parts.0, ← eqb-true k j here, same_place k) refl
      | inr past ↦
          let rest = before-split a h o j (rw (← there, past) refl) low other parts.1 in
          rw (parts.0, rest) (or-true (j == k))
    ]

-- of the members that pass a test one stands behind all others
pub last_passing : (p : List ℕ) (test : ℕ → Bool) (i : ℕ) → AreOnce p → is_member p i ≡ true → test i ≡ true
    → (h : ℕ) × (is_member p h ≡ true) × (test h ≡ true) × ((j : ℕ) → test j ≡ true → is_member p j ≡ true → (j == h) ≡ false → is_before p h j ≡ true)
last_passing [] test i once there passes = absurd (false≢true there)
last_passing (k ∷ p) test i once there passes =
    elim (cases_Bool (list_any test p)) [
      | inl some ↦
          let m = passing_member p test some in
          let it = last_passing p test m.0 once.1 m.1 m.2 in
          let other : (k == it.0) ≡ false = differs p k it.0 once.0 it.1 in (
            it.0,
            rw other it.1,
            it.2,
            λ j pass member apart.
                elim (cases_Bool (k == j)) [
                  | inl here ↦ rw (other, ← eqb-true k j here, same_place k) refl
                  | inr past ↦ rw (other, it.3 j pass (rw (← member, past) refl) apart) (or-true (j == k))
                ],
          )
      | inr none ↦
          let alone : (j : ℕ) → test j ≡ true → is_member (k ∷ p) j ≡ true → (k == j) ≡ true =
          λ j pass member.
          elim (cases_Bool (k == j)) [
            | inl here ↦ here
            | inr past ↦ absurd (false≢true (sym none ∙ member_passing p test j (rw (← member, past) refl) pass))
          ] in
          let here : k ≡ i = eqb-true k i (alone i passes there) in (
            k,
            rw (same_place k) refl,
            subst (λ (n : ℕ). test n ≡ true) (sym here) passes,
            λ j pass member apart. absurd (false≢true (sym (flip-no j k apart) ∙ alone j pass member)),
          )
    ]

-- what stands before something is a member
pub before-member : (o : List ℕ) (i j : ℕ) → is_before o i j ≡ true → is_member o j ≡ true
before-member [] i j h = absurd (false≢true h)
before-member (k ∷ o) i j h =
    elim (cases_Bool (k == i)) [
      | inl here ↦ absurd (false≢true (rw here at h))
      | inr past ↦ elim (or_cases (j == k) (is_before o i j) (rw past at h)) [
        | inl same ↦ rw (eqb-true j k same, same_place k) refl
        | inr before ↦ rw (before-member o i j before) (or-true (k == j))
      ]
    ]

-- the place of a member
pub place-less : (o : List ℕ) (i : ℕ) → is_member o i ≡ true → place_in o i < length o
place-less [] i h = absurd (false≢true h)
place-less (k ∷ o) i h =
    elim (cases_Bool (k == i)) [
      | inl here ↦ rw (place-cons k o i, here) (omega arith)
      | inr past ↦
          let rest = place-less o i (rw (← h, past) refl) in
          rw (place-cons k o i, past) (omega (arith, rest))
    ]

place-first : (k : ℕ) (o : List ℕ) (i : ℕ) → (k == i) ≡ true → place_in (k ∷ o) i ≡ 0
place-first k o i here = rw (place-cons k o i, here) refl

place-later : (k : ℕ) (o : List ℕ) (i : ℕ) → (k == i) ≡ false → place_in (k ∷ o) i ≡ 1 + place_in o i
place-later k o i past = rw (place-cons k o i, past) refl

-- is its own
pub place-own : (o : List ℕ) (i j : ℕ) → is_member o i ≡ true → is_member o j ≡ true → place_in o i ≡ place_in o j → i ≡ j
place-own [] i j h l same = absurd (false≢true h)
place-own (k ∷ o) i j h l same =
    elim (cases_Bool (k == i)) [
      | inl here ↦ elim (cases_Bool (k == j)) [
        | inl too ↦ sym (eqb-true k i here) ∙ eqb-true k j too
        | inr past ↦
            let a = place-first k o i here in
            let b = place-later k o j past in
            absurd (omega (arith, same, a, b))
      ]
      | inr past ↦ elim (cases_Bool (k == j)) [
        | inl here ↦
            let a = place-later k o i past in
            let b = place-first k o j here in
            absurd (omega (arith, same, a, b))
        | inr too ↦
            let a = place-later k o i past in
            let b = place-later k o j too in
            place-own o i j (rw (← h, past) refl) (rw (← l, too) refl) (omega (arith, same, a, b))
      ]
    ]
