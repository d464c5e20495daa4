-- What is made of the places that pass a test: where two tests, or two functions, agree, and one place left out.
use Rattle.std.proofs.Common.{◌≡◌, ℕ, zero, suc, ◌+◌, ◌<◌, ◌≤◌, min, max, Bool, true, List, [], ◌∷◌, map, refl, ap, ◌∙◌, inl, inr, arith}
use Rattle.std.specs.Prelude.{filter, sum_by}
use Rattle.std.specs.List.{range_with_len}
use Rattle.std.proofs.lemmas.Bool.{cases_Bool}
use Rattle.std.proofs.lemmas.List.Sums.{sum_by-cons}
use Rattle.cpa_local.proofs.PlaceLists.{greatest_over, least_over}

-- tests that agree
pub filter-agree : (p q : ℕ → Bool) (a n : ℕ) → ((j : ℕ) → a ≤ j → j < a + n → p j ≡ q j) → filter p (range_with_len a n) ≡ filter q (range_with_len a n)
filter-agree p q a zero h = refl
filter-agree p q a (suc n) h =
    let here = h a (omega arith) (omega arith) in
    let rest = filter-agree p q (a + 1) n (λ j low high. h j (omega arith) (omega arith)) in
    elim (cases_Bool (p a)) [
      | inl on ↦ rw (← here, on) (ap (λ js. a ∷ js) rest)
      | inr off ↦ rw (← here, off) rest
    ]

-- functions that agree at the places that pass
pub map-passing : {Y : Type 0} (p : ℕ → Bool) (f g : ℕ → Y) (a n : ℕ) → ((j : ℕ) → a ≤ j → j < a + n → p j ≡ true → f j ≡ g j)
    → map f (filter p (range_with_len a n)) ≡ map g (filter p (range_with_len a n))
map-passing p f g a zero h = refl
map-passing p f g a (suc n) h =
    let rest = map-passing p f g (a + 1) n (λ j low high. h j (omega arith) (omega arith)) in
    elim (cases_Bool (p a)) [
      | inl passes ↦ rw passes (let here = h a (omega arith) (omega arith) passes in cc)
      | inr fails ↦ rw fails rest
    ]

pub map-map : {X Y Z : Type 0} (f : Y → Z) (g : X → Y) (xs : List X) → map f (map g xs) ≡ map (λ x. f (g x)) xs
map-map f g [] = refl
map-map f g (x ∷ xs) = ap (λ rest. f (g x) ∷ rest) (map-map f g xs)

pub sum_by-map : {X Y : Type 0} (f : Y → ℕ) (g : X → Y) (xs : List X) → sum_by f (map g xs) ≡ sum_by (λ x. f (g x)) xs
sum_by-map f g [] = refl
sum_by-map f g (x ∷ xs) = omega (arith, sum_by-map f g xs, sum_by-cons f (g x) (map g xs), sum_by-cons (λ y. f (g y)) x xs)

pub sum_by-passing : (p : ℕ → Bool) (f g : ℕ → ℕ) (a n : ℕ) → ((j : ℕ) → a ≤ j → j < a + n → p j ≡ true → f j ≡ g j)
    → sum_by f (filter p (range_with_len a n)) ≡ sum_by g (filter p (range_with_len a n))
sum_by-passing p f g a zero h = refl
sum_by-passing p f g a (suc n) h =
    let rest = sum_by-passing p f g (a + 1) n (λ j low high. h j (omega arith) (omega arith)) in
    elim (cases_Bool (p a)) [
      | inl passes ↦
          let here = h a (omega arith) (omega arith) passes in
          let js = filter p (range_with_len (a + 1) n) in
          rw passes (omega (arith, sum_by-cons f a js, sum_by-cons g a js))
      | inr fails ↦ rw fails rest
    ]

pub greatest-map : (f : ℕ → ℕ) (g : ℕ → ℕ) (most : ℕ) (js : List ℕ) → greatest_over f most (map g js) ≡ greatest_over (λ j. f (g j)) most js
greatest-map f g most [] = refl
greatest-map f g most (j ∷ js) = greatest-map f g (max most (f (g j))) js

pub greatest-passing : (p : ℕ → Bool) (f g : ℕ → ℕ) (most a n : ℕ) → ((j : ℕ) → a ≤ j → j < a + n → p j ≡ true → f j ≡ g j)
    → greatest_over f most (filter p (range_with_len a n)) ≡ greatest_over g most (filter p (range_with_len a n))
greatest-passing p f g most a zero h = refl
greatest-passing p f g most a (suc n) h =
    elim (cases_Bool (p a)) [
      | inl passes ↦
          let here = h a (omega arith) (omega arith) passes in
          rw passes (ap (λ m. greatest_over f (max most m) (filter p (range_with_len (a + 1) n))) here ∙ greatest-passing p f g (max most (g a)) (a + 1) n (λ j low high. h j (omega arith) (omega arith)))
      | inr fails ↦ rw fails (greatest-passing p f g most (a + 1) n (λ j low high. h j (omega arith) (omega arith)))
    ]

-- the least over those that pass a test, by their places elsewhere
pub least-map : (p : ℕ → Bool) (f : ℕ → ℕ) (g : ℕ → ℕ) (least : ℕ) (js : List ℕ) → least_over f least (filter p (map g js)) ≡ least_over (λ j. f (g j)) least (filter (λ j. p (g j)) js)
least-map p f g least [] = refl
least-map p f g least (j ∷ js) =
    elim (cases_Bool (p (g j))) [
      | inl passes ↦ rw passes (least-map p f g (min least (f (g j))) js)
      | inr fails ↦ rw fails (least-map p f g least js)
    ]

-- the least over those that pass a second test besides
pub least-passing : (p q r : ℕ → Bool) (f g : ℕ → ℕ) (least a n : ℕ) → ((j : ℕ) → a ≤ j → j < a + n → p j ≡ true → (q j ≡ r j) × (f j ≡ g j))
    → least_over f least (filter q (filter p (range_with_len a n))) ≡ least_over g least (filter r (filter p (range_with_len a n)))
least-passing p q r f g least a zero h = refl
least-passing p q r f g least a (suc n) h =
    elim (cases_Bool (p a)) [
      | inl passes ↦
          let here = h a (omega arith) (omega arith) passes in
          elim (cases_Bool (q a)) [
            | inl counts ↦
                rw (passes, ← here.0, counts)
                (ap (λ m. least_over f (min least m) (filter q (filter p (range_with_len (a + 1) n)))) here.1 ∙ least-passing p q r f g (min least (g a)) (a + 1) n (λ j low high. h j (omega arith) (omega arith)))
            | inr drops ↦ rw (passes, ← here.0, drops) (least-passing p q r f g least (a + 1) n (λ j low high. h j (omega arith) (omega arith)))
          ]
      | inr fails ↦ rw fails (least-passing p q r f g least (a + 1) n (λ j low high. h j (omega arith) (omega arith)))
    ]
