-- How many of a source's events come before a time.
use Rattle.std.proofs.Common.{◌≡◌, ℕ, ◌+◌, ◌<◌, ◌≤◌, length, List, [], ◌∷◌, cond, eqb, ltb, refl, ◌∙◌, inl, inr, arith}
use Rattle.std.specs.List.{count_by}
use Rattle.std.proofs.lemmas.Bool.{cases_lt, cases_order, lt-ltb, le-ltb, eq-eqb, ne_eqb}
use Rattle.std.proofs.lemmas.List.Sums.{sum_by-cons}

pub events_before : List ℕ → ℕ → ℕ
events_before times t = count_by (λ e. ltb e t) times

before-cons : (x : ℕ) (xs : List ℕ) (t : ℕ) → events_before (x ∷ xs) t ≡ cond (ltb x t) 1 0 + events_before xs t
unfolding events_before
before-cons x xs t = sum_by-cons (λ e. cond (ltb e t) 1 0) x xs

pub before-lt : (x : ℕ) (xs : List ℕ) (t : ℕ) → x < t → events_before (x ∷ xs) t ≡ 1 + events_before xs t
before-lt x xs t h = before-cons x xs t ∙ rw (lt-ltb x t h) refl

pub before-ge : (x : ℕ) (xs : List ℕ) (t : ℕ) → t ≤ x → events_before (x ∷ xs) t ≡ 0 + events_before xs t
before-ge x xs t h = before-cons x xs t ∙ rw (le-ltb x t h) refl

now-cons : (x : ℕ) (xs : List ℕ) (t : ℕ) → count_by (λ e. eqb e t) (x ∷ xs) ≡ cond (eqb x t) 1 0 + count_by (λ e. eqb e t) xs
now-cons x xs t = sum_by-cons (λ e. cond (eqb e t) 1 0) x xs

pub before-none : (xs : List ℕ) → events_before xs 0 ≡ 0
unfolding events_before
before-none [] = refl
before-none (x ∷ xs) = omega (arith, before-ge x xs 0 (omega arith), before-none xs)

pub before-suc : (xs : List ℕ) (t : ℕ) → events_before xs (t + 1) ≡ events_before xs t + count_by (λ e. eqb e t) xs
unfolding events_before
before-suc [] t = refl
before-suc (x ∷ xs) t =
    elim (cases_order x t) [
      | inl same ↦ omega (arith, before-lt x xs (t + 1) (omega arith), before-ge x xs t (omega arith), at_once same, before-suc xs t)
      | inr o ↦ elim o [
        | inl less ↦ omega (arith, before-lt x xs (t + 1) (omega arith), before-lt x xs t less, apart (omega arith), before-suc xs t)
        | inr more ↦ omega (arith, before-ge x xs (t + 1) (omega arith), before-ge x xs t (omega arith), apart (omega arith), before-suc xs t)
      ]
    ]
  where
    at_once : x ≡ t → count_by (λ e. eqb e t) (x ∷ xs) ≡ 1 + count_by (λ e. eqb e t) xs
    at_once e = now-cons x xs t ∙ rw (eq-eqb x t e) refl

    apart : (x ≡ t → ⊥) → count_by (λ e. eqb e t) (x ∷ xs) ≡ 0 + count_by (λ e. eqb e t) xs
    apart ne = now-cons x xs t ∙ rw (ne_eqb x t ne) refl

pub before-le : (xs : List ℕ) (t : ℕ) → events_before xs t ≤ length xs
unfolding events_before
before-le [] t = omega arith
before-le (x ∷ xs) t =
    elim (cases_lt x t) [ inl h ↦ omega (arith, before-lt x xs t h, before-le xs t) | inr h ↦ omega (arith, before-ge x xs t h, before-le xs t) ]
