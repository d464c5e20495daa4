-- The one of a list with the least number.
use Rattle.std.proofs.Common.{◌≡◌, ℕ, ◌<◌, ◌≤◌, List, [], ◌∷◌, Option, Some, None, refl, sym, ap, ◌∙◌, inl, inr, subst}
use Rattle.std.specs.List.{AllByRecursion}
use Rattle.std.specs.Option.{ForSome}
use Rattle.std.proofs.lemmas.Bool.{cases_lt, cond-true, cond-false, lt-ltb, le-ltb}
use Rattle.cpa_sched.specs.Least.{lesser, least_by}
use Rattle.cpa_sched.specs.Steps.{first_of}
use Rattle.cpa_sched.proofs.OptionLaws.{some-injective}

module _ (number : ℕ → ℕ) where
  pub lesser-later : (j k : ℕ) → number k < number j → lesser number j (Some k) ≡ k
  lesser-later j k less = cond-true _ k j (lt-ltb (number k) (number j) less)

  pub lesser-former : (j k : ℕ) → number j ≤ number k → lesser number j (Some k) ≡ j
  lesser-former j k le = cond-false _ k j (le-ltb (number k) (number j) le)

  lesser-among : (P : ℕ → Type 0) (j : ℕ) (o : Option ℕ) → P j → ForSome o P → P (lesser number j o)
  lesser-among P j None here rest = here
  lesser-among P j (Some k) here rest =
      elim (cases_lt (number k) (number j)) [
        | inl less ↦ rw (lesser-later j k less) (rest k refl)
        | inr more ↦ rw (lesser-former j k more) here
      ]

  pub least-among : (P : ℕ → Type 0) (js : List ℕ) (k : ℕ) → AllByRecursion P js → least_by number js ≡ Some k → P k
  least-among P [] k all e = cc
  least-among P (j ∷ js) k all e =
      subst P (some-injective (lesser number j (least_by number js)) k e) (lesser-among P j (least_by number js) all.0 (λ l e'. least-among P js l all.1 e'))

  -- the first one, where none has a smaller number
  pub least-soonest : (js : List ℕ) (k : ℕ) → first_of js ≡ Some k → AllByRecursion (λ j. number k ≤ number j) js → least_by number js ≡ Some k
  least-soonest [] k e all = cc
  least-soonest (j ∷ js) k e all =
      let same : j ≡ k = some-injective j k e in
      ap Some (foremost (least_by number js) (λ l e'. subst (λ i. number i ≤ number l) (sym same) (least-among (λ i. number k ≤ number i) js l all.1 e')) ∙ same)
    where
      foremost : (o : Option ℕ) → ForSome o (λ l. number j ≤ number l) → lesser number j o ≡ j
      foremost None none = refl
      foremost (Some l) less = lesser-former j l (less l refl)

-- numbers that agree on the list give the same one
lesser-alike : (a b : ℕ → ℕ) (j : ℕ) (o : Option ℕ) → a j ≡ b j → ForSome o (λ k. a k ≡ b k) → lesser a j o ≡ lesser b j o
lesser-alike a b j None here rest = refl
lesser-alike a b j (Some k) here rest = let there = rest k refl in rw (here, there) refl

pub least-alike : (a b : ℕ → ℕ) (P : ℕ → Type 0) → ((j : ℕ) → P j → a j ≡ b j) → (js : List ℕ) → AllByRecursion P js → least_by a js ≡ least_by b js
least-alike a b P same [] all = refl
least-alike a b P same (j ∷ js) all =
    ap Some (lesser-alike a b j (least_by a js) (same j all.0) (λ k e. same k (least-among a P js k all.1 e)) ∙ ap (lesser b j) (least-alike a b P same js all.1))
