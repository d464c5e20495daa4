-- The greatest of some numbers, one more, and where all are 0.
use Rattle.std.proofs.Common.{◌≡◌, ◌<◌, ◌+◌, ◌∙◌, ℕ, zero, suc, Bool, true, false, List, [], ◌∷◌, ◌++◌, max, refl, sym, ap, subst, arith}
use Rattle.std.specs.Prelude.{filter, fold}
use Rattle.std.proofs.lemmas.List.{append-nil}
use Rattle.std.proofs.lemmas.List.Elements.{filter-append}
use Rattle.std.proofs.lemmas.List.Sums.{fold-append}
use Rattle.cpa_units.proofs.PlaceLaws.{places, places-more}

-- the greatest of what `f` gives
abbrev pub greatest_in : (ℕ → ℕ) → List ℕ → ℕ
greatest_in f js = fold (λ most j. max most (f j)) 0 js

pub greatest-push : (f : ℕ → ℕ) (js : List ℕ) (j : ℕ) → greatest_in f (js ++ j ∷ []) ≡ max (greatest_in f js) (f j)
greatest-push f js j = fold-append (λ most i. max most (f i)) 0 js (j ∷ [])

-- 0 where `f` gives 0 at each place below n that passes
pub greatest-none : (f : ℕ → ℕ) (q : ℕ → Bool) (n : ℕ) → ((j : ℕ) → j < n → q j ≡ true → f j ≡ 0) → greatest_in f (filter q (places n)) ≡ 0
greatest-none f q zero none = refl
greatest-none f q (suc n) none =
    let more : suc n ≡ n + 1 = omega arith in
    subst (λ m. greatest_in f (filter q (places m)) ≡ 0) (sym more) (next (q n) refl (greatest-none f q n (λ j less passes. none j (omega arith) passes)))
  where
    grown : filter q (places (n + 1)) ≡ filter q (places n) ++ filter q (n ∷ [])
    grown = ap (filter q) (places-more n) ∙ filter-append q (places n) (n ∷ [])

    next : (b : Bool) → q n ≡ b → greatest_in f (filter q (places n)) ≡ 0 → greatest_in f (filter q (places (n + 1))) ≡ 0
    next true e before =
        let one : filter q (n ∷ []) ≡ n ∷ [] = rw e refl in
        let last : f n ≡ 0 = none n (omega arith) e in
        let parts : greatest_in f (filter q (places (n + 1))) ≡ max (greatest_in f (filter q (places n))) (f n) =
        ap (greatest_in f) (grown ∙ ap (λ js. filter q (places n) ++ js) one) ∙ greatest-push f (filter q (places n)) n in
        rw (parts, before, last) refl
    next false e before =
        let fails : filter q (n ∷ []) ≡ [] = rw e refl in
        ap (greatest_in f) (grown ∙ ap (λ js. filter q (places n) ++ js) fails ∙ append-nil (filter q (places n))) ∙ before
