-- Of a list of tasks the one with the least number.
use Rattle.std.proofs.Common.{◌≡◌, ℕ, zero, suc, ◌+◌, ◌<◌, ◌≤◌, ◌++◌, ◌⊎◌, Bool, true, false, List, [], ◌∷◌, length, Option, Some, None, refl, sym, ap, ◌∙◌, inl, inr, arith, subst}
use Rattle.std.specs.Prelude.{filter}
use Rattle.std.specs.List.{AllByRecursion, range_with_len}
use Rattle.std.specs.Option.{ForSome}
use Rattle.std.proofs.lemmas.Bool.{cases_lt, cases_Bool, cond-true, cond-false, lt-ltb, le-ltb, false≢true}
use Rattle.cpa_model.specs.SystemLists.{SystemLists, is_on, task_places, tasks_on}
use Rattle.cpa_sched.specs.Least.{lesser, least_by, ComesBefore}
use Rattle.cpa_sched.specs.States.{IsWaiting}
use Rattle.cpa_sched.proofs.OptionLaws.{some-injective}
use Rattle.cpa_sched.proofs.LeastOfList.{lesser-later, lesser-former, least-among}
use Rattle.cpa_sched.proofs.ScanLaws.{filter-passing, filter-failing}
use Rattle.cpa_sched.proofs.StepLaws.{all_filter, tasks_on-are, waiting-are}

-- ---- each of a list, from the list that was filtered, and back

all-kept : (p : ℕ → Bool) (P : ℕ → Type 0) (js : List ℕ) → AllByRecursion P (filter p js) → AllByRecursion (λ j. p j ≡ true → P j) js
all-kept p P [] all = tt
all-kept p P (j ∷ js) all =
    elim (cases_Bool (p j)) [
      | inl kept ↦ let all' = rw kept at all in (λ e. all'.0, all-kept p P js all'.1)
      | inr dropped ↦ let all' = rw dropped at all in (λ e. absurd (false≢true (sym dropped ∙ e)), all-kept p P js all')
    ]

all-at : (P : ℕ → Type 0) (a n j : ℕ) → a ≤ j → j < a + n → AllByRecursion P (range_with_len a n) → P j
all-at P a zero j low high all = absurd (omega (arith, low, high))
all-at P a (suc n) j low high all =
    elim (cases_lt a j) [
      | inl before ↦ all-at P (a + 1) n j (omega (arith, before)) (omega (arith, high)) all.1
      | inr here ↦ let e : a ≡ j = omega (arith, here, low) in subst P e all.0
    ]

-- what holds of each task of a resource that waits holds of this one
pub waiting-at : (s : SystemLists) (r : ℕ) (w : ℕ → Bool) (P : ℕ → Type 0) (j : ℕ) → IsWaiting s r w j → AllByRecursion P (filter w (tasks_on s r)) → P j
waiting-at s r w P j waits all =
    let on = all-kept w P (tasks_on s r) all in
    let all_of = all-kept (is_on s r) (λ i. w i ≡ true → P i) (task_places s) on in
    all-at (λ i. is_on s r i ≡ true → w i ≡ true → P i) 0 (length s.tasks) j (omega arith) (omega (arith, waits.on.task)) all_of waits.on.here waits.waits_now

-- ---- tasks in the order of the file

abbrev IsAscending : List ℕ → Type 0
IsAscending [] = Unit {0}
IsAscending (j ∷ js) = AllByRecursion (λ k. j ≤ k) js × IsAscending js

ascending-filter : (p : ℕ → Bool) (js : List ℕ) → IsAscending js → IsAscending (filter p js)
ascending-filter p [] h = tt
ascending-filter p (j ∷ js) h =
    elim (cases_Bool (p j)) [
      | inl kept ↦ rw kept (all_filter p (λ k. j ≤ k) (λ k. j ≤ k) (λ k passes le. le) js h.0, ascending-filter p js h.1)
      | inr dropped ↦ rw dropped (ascending-filter p js h.1)
    ]

range-from : (a b n : ℕ) → a ≤ b → AllByRecursion (λ k. a ≤ k) (range_with_len b n)
range-from a b zero le = tt
range-from a b (suc n) le = (le, range-from a (b + 1) n (omega (arith, le)))

ascending-range : (a n : ℕ) → IsAscending (range_with_len a n)
ascending-range a zero = tt
ascending-range a (suc n) = (range-from a (a + 1) n (omega arith), ascending-range (a + 1) n)

pub ascending-waiting : (s : SystemLists) (r : ℕ) (w : ℕ → Bool) → IsAscending (filter w (tasks_on s r))
ascending-waiting s r w = ascending-filter w (tasks_on s r) (ascending-filter (is_on s r) (task_places s) (ascending-range 0 (length s.tasks)))

-- ---- the least

pub all_map : (P Q : ℕ → Type 0) → ((j : ℕ) → P j → Q j) → (js : List ℕ) → AllByRecursion P js → AllByRecursion Q js
all_map P Q f [] all = tt
all_map P Q f (j ∷ js) all = (f j all.0, all_map P Q f js all.1)

module _ (number : ℕ → ℕ) where
  before-same : (k : ℕ) → ComesBefore number k k
  before-same k = inr (refl, omega arith)

  before-then : (k j l : ℕ) → ComesBefore number k j → ComesBefore number j l → ComesBefore number k l
  before-then k j l (inl a) (inl b) = inl (omega (arith, a, b))
  before-then k j l (inl a) (inr b) = let same = b.0 in inl (omega (arith, a, same))
  before-then k j l (inr a) (inl b) = let same = a.0 in inl (omega (arith, b, same))
  before-then k j l (inr a) (inr b) = inr (a.0 ∙ b.0, omega (arith, a.1, b.1))

  pub before-both : (k j : ℕ) → ComesBefore number k j → ComesBefore number j k → k ≡ j
  before-both k j (inl a) (inl b) = absurd (omega (arith, a, b))
  before-both k j (inl a) (inr b) = let same = b.0 in absurd (omega (arith, a, same))
  before-both k j (inr a) (inl b) = let same = a.0 in absurd (omega (arith, b, same))
  before-both k j (inr a) (inr b) = omega (arith, a.1, b.1)

  pub none-least : (js : List ℕ) → least_by number js ≡ None → js ≡ []
  none-least [] e = refl
  none-least (j ∷ js) e = cc

  -- of two with one number the former comes before the other
  ties : (j l : ℕ) → j ≤ l → number j ≤ number l → ComesBefore number j l
  ties j l later le =
      elim (cases_lt (number j) (number l)) [
        | inl less ↦ inl less
        | inr other ↦ inr (omega (arith, other, le), later)
      ]

  lesser-first : (j : ℕ) (js : List ℕ) (o : Option ℕ) → least_by number js ≡ o → AllByRecursion (λ k. j ≤ k) js → ForSome o (λ l. AllByRecursion (ComesBefore number l) js)
      → AllByRecursion (ComesBefore number (lesser number j o)) (j ∷ js)
  lesser-first j js None same order rest = subst (λ ks. AllByRecursion (ComesBefore number j) (j ∷ ks)) (sym (none-least js same)) (before-same j, tt)
  lesser-first j js (Some l) same order rest =
      elim (cases_lt (number l) (number j)) [
        | inl less ↦ subst (λ k. AllByRecursion (ComesBefore number k) (j ∷ js)) (sym (lesser-later number j l less)) (inl less, rest l refl)
        | inr more ↦
            let before : ComesBefore number j l = ties j l (least-among number (λ i. j ≤ i) js l order same) more in
            subst (λ k. AllByRecursion (ComesBefore number k) (j ∷ js)) (sym (lesser-former number j l more)) (before-same j, all_map (ComesBefore number l) (ComesBefore number j) (λ i h. before-then j l i before h) js (rest l refl))
      ]

  pub least-first : (js : List ℕ) (k : ℕ) → IsAscending js → least_by number js ≡ Some k → AllByRecursion (ComesBefore number k) js
  least-first [] k order e = tt
  least-first (j ∷ js) k order e =
      subst (λ l. AllByRecursion (ComesBefore number l) (j ∷ js)) (some-injective (lesser number j (least_by number js)) k e)
      (lesser-first j js (least_by number js) refl order.0 (λ l e'. least-first js l order.1 e'))

-- ---- the least of a list, one task further

module _ (number : ℕ → ℕ) where
  first : ℕ → ℕ → ℕ
  first j k = lesser number j (Some k)

  first-right : (j k : ℕ) → number k < number j → first j k ≡ k
  unfolding first
  first-right j k h = cond-true _ k j (lt-ltb _ _ h)

  first-left : (j k : ℕ) → number j ≤ number k → first j k ≡ j
  unfolding first
  first-left j k h = cond-false _ k j (le-ltb _ _ h)

  first-assoc : (i j k : ℕ) → first i (first j k) ≡ first (first i j) k
  first-assoc i j k =
      elim (cases_lt (number k) (number j)) [
        | inl kj ↦ elim (cases_lt (number j) (number i)) [
          | inl ji ↦ rw (first-right j k kj, first-right i j ji, first-right j k kj) (first-right i k (omega arith))
          | inr ij ↦ rw (first-right j k kj, first-left i j ij) refl
        ]
        | inr jk ↦ elim (cases_lt (number j) (number i)) [
          | inl ji ↦ rw (first-left j k jk, first-right i j ji, first-left j k jk) refl
          | inr ij ↦ rw (first-left j k jk, first-left i j ij) (sym (first-left i k (omega arith)))
        ]
      ]

  latest : Option ℕ → ℕ → ℕ
  latest None x = x
  latest (Some j) x = first j x

  latest-more : (j x : ℕ) (o : Option ℕ) → first j (latest o x) ≡ first (lesser number j o) x
  unfolding latest first
  latest-more j x None = refl
  latest-more j x (Some k) = unfold first in first-assoc j k x

  least-more : (xs : List ℕ) (x : ℕ) → least_by number (xs ++ x ∷ []) ≡ Some (latest (least_by number xs) x)
  unfolding latest first
  least-more [] x = refl
  least-more (j ∷ js) x = ap (λ o. Some (lesser number j o)) (least-more js x) ∙ ap Some (latest-more j x (least_by number js))

  module _ (w : ℕ → Bool) (xs : List ℕ) (x : ℕ) where
    pub least-alone : w x ≡ true → least_by number (filter w xs) ≡ None → least_by number (filter w (xs ++ x ∷ [])) ≡ Some x
    unfolding latest
    least-alone e none = ap (least_by number) (filter-passing w xs x e) ∙ least-more (filter w xs) x ∙ (rw none refl)

    pub least-then : (k : ℕ) → w x ≡ true → least_by number (filter w xs) ≡ Some k → least_by number (filter w (xs ++ x ∷ [])) ≡ Some (lesser number k (Some x))
    unfolding latest first
    least-then k e some = ap (least_by number) (filter-passing w xs x e) ∙ least-more (filter w xs) x ∙ (rw some refl)

    pub least-idle : w x ≡ false → least_by number (filter w (xs ++ x ∷ [])) ≡ least_by number (filter w xs)
    least-idle e = ap (least_by number) (filter-failing w xs x e)

-- ---- it stays the same

-- in a later queue the number of k is no greater, and each other one is no smaller than it was, or greater than that of k was
pub record AreNoSmaller (s : SystemLists) (r k : ℕ) (before after : ℕ → ℕ) (w v : ℕ → Bool) : Type 0 where
  pub waits : v k ≡ true
  pub falls : after k ≤ before k
  pub others : (j : ℕ) → IsWaiting s r v j → (j ≡ k) ⊎ (((w j ≡ true) × (before j ≤ after j)) ⊎ (before k < after j))

module _ (s : SystemLists) (r : ℕ) (number : ℕ → ℕ) (w : ℕ → Bool) where
  abbrev pub chosen : Option ℕ
  chosen = least_by number (filter w (tasks_on s r))

  pub chosen-waits : ForSome (least_by number (filter w (tasks_on s r))) (IsWaiting s r w)
  chosen-waits k e = least-among number (IsWaiting s r w) (filter w (tasks_on s r)) k (waiting-are s r w (tasks_on s r) (tasks_on-are s r)) e

  pub chosen-first : (k j : ℕ) → least_by number (filter w (tasks_on s r)) ≡ Some k → IsWaiting s r w j → ComesBefore number k j
  chosen-first k j e waits = waiting-at s r w (ComesBefore number k) j waits (least-first number (filter w (tasks_on s r)) k (ascending-waiting s r w) e)

  pub chosen-some : (j : ℕ) → IsWaiting s r w j → least_by number (filter w (tasks_on s r)) ≡ None → ⊥
  chosen-some j waits e =
      let none = none-least number (filter w (tasks_on s r)) e in
      waiting-at s r w (λ i. ⊥) j waits (rw none tt)

pub least-stays : (s : SystemLists) (r k : ℕ) (before after : ℕ → ℕ) (w v : ℕ → Bool) → least_by before (filter w (tasks_on s r)) ≡ Some k → AreNoSmaller s r k before after w v
    → least_by after (filter v (tasks_on s r)) ≡ Some k
least-stays s r k before after w v e later = go (least_by after (filter v (tasks_on s r))) refl
  where
    here : IsWaiting s r v k
    here = record { on = (chosen-waits s r before w k e).on; waits_now = later.waits }

    same-one : (l : ℕ) → ComesBefore after l k → ComesBefore before k l → before l ≤ after l → l ≡ k
    same-one l (inl a) (inl b) le = let f = later.falls in absurd (omega (arith, a, b, le, f))
    same-one l (inl a) (inr b) le = let f = later.falls in let same = b.0 in absurd (omega (arith, a, same, le, f))
    same-one l (inr a) (inl b) le = let f = later.falls in let same = a.0 in absurd (omega (arith, b, same, le, f))
    same-one l (inr a) (inr b) le = omega (arith, a.1, b.1)

    this : (l : ℕ) → IsWaiting s r v l → ComesBefore after l k → (l ≡ k) ⊎ (((w l ≡ true) × (before l ≤ after l)) ⊎ (before k < after l)) → l ≡ k
    this l waits first (inl same) = same
    this l waits first (inr (inl was)) = same-one l first (chosen-first s r before w k l e (record { on = waits.on; waits_now = was.0 })) was.1
    this l waits (inl a) (inr (inr new)) = let f = later.falls in absurd (omega (arith, a, new, f))
    this l waits (inr a) (inr (inr new)) = let f = later.falls in let same = a.0 in absurd (omega (arith, same, new, f))

    go : (o : Option ℕ) → least_by after (filter v (tasks_on s r)) ≡ o → o ≡ Some k
    go None none = absurd (chosen-some s r after v k here none)
    go (Some l) is = let waits = chosen-waits s r after v l is in ap Some (this l waits (chosen-first s r after v l k is here) (later.others l waits))
