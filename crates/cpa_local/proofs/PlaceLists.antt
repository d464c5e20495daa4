-- What is made of the places that pass a test, where there are more places, and more at each.
use Rattle.std.proofs.Common.{◌≡◌, ℕ, zero, suc, ◌+◌, ◌<◌, ◌≤◌, min, max, Bool, List, [], ◌∷◌, map, inl, inr, arith}
use Rattle.std.specs.Prelude.{filter, fold, sum_by}
use Rattle.std.specs.List.{range_with_len}
use Rattle.std.proofs.lemmas.Bool.{cases_Bool}
use Rattle.std.proofs.lemmas.List.Sums.{sum_by-cons}
use Rattle.cpa_window.specs.declared.rivals.Rival.{Rival}
use Rattle.cpa_window.specs.Rivals.{IsNoHeavier, AreNoHeavier}
use Rattle.cpa_clock.specs.Rivals.{ClockedRival}
use Rattle.cpa_clock.specs.Wider.{IsRivalWider, AreRivalsWider}

-- the greatest of what f gives, from `most` on
abbrev pub greatest_over : (ℕ → ℕ) → ℕ → List ℕ → ℕ
greatest_over f most js = fold (λ most j. max most (f j)) most js

-- the least of what f gives, from `least` on
abbrev pub least_over : (ℕ → ℕ) → ℕ → List ℕ → ℕ
least_over f least js = fold (λ least j. min least (f j)) least js

-- ---- more places, and more at each

pub rivals-passing : (p q : ℕ → Bool) (f g : ℕ → Rival) (a n more : ℕ) → ((j : ℕ) → a ≤ j → j < a + n → p j ≡ q j)
    → ((j : ℕ) → a ≤ j → j < a + n → IsNoHeavier (f j) (g j)) → AreNoHeavier (map f (filter p (range_with_len a n))) (map g (filter q (range_with_len a (n + more))))
rivals-passing p q f g a zero more same h = tt
rivals-passing p q f g a (suc n) more same h =
    let e : suc n + more ≡ suc (n + more) = omega arith in
    let rest = rivals-passing p q f g (a + 1) n more (λ j low high. same j (omega arith) (omega arith)) (λ j low high. h j (omega arith) (omega arith)) in
    let here = same a (omega arith) (omega arith) in
    elim (cases_Bool (p a)) [
      | inl passes ↦ rw (e, ← here, passes) (h a (omega arith) (omega arith), rest)
      | inr fails ↦ rw (e, ← here, fails) rest
    ]

pub clocked_rivals-passing : (p q : ℕ → Bool) (f g : ℕ → ClockedRival) (a n more : ℕ) → ((j : ℕ) → a ≤ j → j < a + n → p j ≡ q j)
    → ((j : ℕ) → a ≤ j → j < a + n → IsRivalWider (f j) (g j)) → AreRivalsWider (map f (filter p (range_with_len a n))) (map g (filter q (range_with_len a (n + more))))
clocked_rivals-passing p q f g a zero more same h = tt
clocked_rivals-passing p q f g a (suc n) more same h =
    let e : suc n + more ≡ suc (n + more) = omega arith in
    let rest = clocked_rivals-passing p q f g (a + 1) n more (λ j low high. same j (omega arith) (omega arith)) (λ j low high. h j (omega arith) (omega arith)) in
    let here = same a (omega arith) (omega arith) in
    elim (cases_Bool (p a)) [
      | inl passes ↦ rw (e, ← here, passes) (h a (omega arith) (omega arith), rest)
      | inr fails ↦ rw (e, ← here, fails) rest
    ]

pub sum-passing : (p q : ℕ → Bool) (f g : ℕ → ℕ) (a n more : ℕ) → ((j : ℕ) → a ≤ j → j < a + n → p j ≡ q j)
    → ((j : ℕ) → a ≤ j → j < a + n → f j ≤ g j) → sum_by f (filter p (range_with_len a n)) ≤ sum_by g (filter q (range_with_len a (n + more)))
sum-passing p q f g a zero more same h = omega arith
sum-passing p q f g a (suc n) more same h =
    let e : suc n + more ≡ suc (n + more) = omega arith in
    let rest = sum-passing p q f g (a + 1) n more (λ j low high. same j (omega arith) (omega arith)) (λ j low high. h j (omega arith) (omega arith)) in
    let here = same a (omega arith) (omega arith) in
    let js = filter p (range_with_len (a + 1) n) in
    let ks = filter q (range_with_len (a + 1) (n + more)) in
    elim (cases_Bool (p a)) [
      | inl passes ↦ rw (e, ← here, passes) (let up = h a (omega arith) (omega arith) in omega (arith, sum_by-cons f a js, sum_by-cons g a ks))
      | inr fails ↦ rw (e, ← here, fails) rest
    ]

greatest-ge : (g : ℕ → ℕ) (most : ℕ) (js : List ℕ) → most ≤ greatest_over g most js
greatest-ge g most [] = omega arith
greatest-ge g most (j ∷ js) = omega (arith, greatest-ge g (max most (g j)) js)

pub greatest-more_passing : (p q : ℕ → Bool) (f g : ℕ → ℕ) (m k a n more : ℕ) → m ≤ k → ((j : ℕ) → a ≤ j → j < a + n → p j ≡ q j)
    → ((j : ℕ) → a ≤ j → j < a + n → f j ≤ g j) → greatest_over f m (filter p (range_with_len a n)) ≤ greatest_over g k (filter q (range_with_len a (n + more)))
greatest-more_passing p q f g m k a zero more le same h = omega (arith, greatest-ge g k (filter q (range_with_len a (0 + more))))
greatest-more_passing p q f g m k a (suc n) more le same h =
    let e : suc n + more ≡ suc (n + more) = omega arith in
    let here = same a (omega arith) (omega arith) in
    elim (cases_Bool (p a)) [
      | inl passes ↦
          rw (e, ← here, passes)
          (greatest-more_passing p q f g (max m (f a)) (max k (g a)) (a + 1) n more (let up = h a (omega arith) (omega arith) in omega arith) (λ j low high. same j (omega arith) (omega arith)) (λ j low high. h j (omega arith) (omega arith)))
      | inr fails ↦
          rw (e, ← here, fails)
          (greatest-more_passing p q f g m k (a + 1) n more le (λ j low high. same j (omega arith) (omega arith)) (λ j low high. h j (omega arith) (omega arith)))
    ]

-- ---- more places, and less at each

least-le : (g : ℕ → ℕ) (least : ℕ) (js : List ℕ) → least_over g least js ≤ least
least-le g least [] = omega arith
least-le g least (j ∷ js) = omega (arith, least-le g (min least (g j)) js)

-- more places that pass two tests, and less at each
pub least-more_passing : (p q r u : ℕ → Bool) (f g : ℕ → ℕ) (m k a n more : ℕ) → k ≤ m → ((j : ℕ) → a ≤ j → j < a + n → p j ≡ r j) → ((j : ℕ) → a ≤ j → j < a + n → q j ≡ u j)
    → ((j : ℕ) → a ≤ j → j < a + n → g j ≤ f j) → least_over g k (filter u (filter r (range_with_len a (n + more)))) ≤ least_over f m (filter q (filter p (range_with_len a n)))
least-more_passing p q r u f g m k a zero more le same alike h = omega (arith, least-le g k (filter u (filter r (range_with_len a (0 + more)))))
least-more_passing p q r u f g m k a (suc n) more le same alike h =
    let e : suc n + more ≡ suc (n + more) = omega arith in
    let here = same a (omega arith) (omega arith) in
    let there = alike a (omega arith) (omega arith) in
    let rest = least-more_passing p q r u f g m k (a + 1) n more le (λ j low high. same j (omega arith) (omega arith)) (λ j low high. alike j (omega arith) (omega arith)) (λ j low high. h j (omega arith) (omega arith)) in
    elim (cases_Bool (p a)) [
      | inl passes ↦
          elim (cases_Bool (q a)) [
            | inl counts ↦
                rw (e, ← here, passes, ← there, counts)
                (least-more_passing p q r u f g (min m (f a)) (min k (g a)) (a + 1) n more (let down = h a (omega arith) (omega arith) in omega arith) (λ j low high. same j (omega arith) (omega arith))
                (λ j low high. alike j (omega arith) (omega arith)) (λ j low high. h j (omega arith) (omega arith)))
            | inr fails ↦ rw (e, ← here, passes, ← there, fails) rest
          ]
      | inr fails ↦ rw (e, ← here, fails) rest
    ]
