-- Lists that are made place by place: what they contain, and in which order.
use Rattle.std.proofs.Common.{◌≡◌, ℕ, zero, suc, ◌+◌, ◌<◌, ◌≤◌, ◌++◌, List, [], ◌∷◌, sym, subst, inl, inr, arith, get_or}
use Rattle.std.specs.List.{Contains, AllPairs, flat_map, range_with_len}
use Rattle.std.proofs.lemmas.Bool.{cases_lt}
use Rattle.std.proofs.lemmas.List.Concat.{flat_map-cons}
use Rattle.std.proofs.lemmas.List.Kept.{AllPairs-cons}
use Rattle.std.proofs.lemmas.List.Elements.{Contains-get_or, Contains-append_left, Contains-append_right, Contains-append_cases, Contains-push, Contains-push_cases}

module _ {X : Type 0} where
  pub nothing-in : (x : X) → Contains [] x → ⊥
  nothing-in x h = let less = h.1 in absurd (omega arith)

  pub one-in : (y x : X) → Contains (y ∷ []) x → y ≡ x
  one-in y x h = elim (Contains-push_cases [] y x h) [ inl none ↦ absurd (nothing-in x none) | inr e ↦ e ]

  pub head-in : (x : X) (xs : List X) → Contains (x ∷ xs) x
  head-in x xs = Contains-append_left (x ∷ []) xs x (Contains-push [] x)

  pub tail-in : (y : X) (xs : List X) (x : X) → Contains xs x → Contains (y ∷ xs) x
  tail-in y xs x h = Contains-append_right (y ∷ []) xs x h

  -- where an entry comes from
  pub record IsMadeIn (f : ℕ → List X) (a n : ℕ) (x : X) : Type 0 where
    pub place : ℕ
    pub from : a ≤ place
    pub below : place < a + n
    pub is : Contains (f place) x

  pub made-in : (f : ℕ → List X) (a n : ℕ) (x : X) → Contains (flat_map f (range_with_len a n)) x → IsMadeIn f a n x
  made-in f a zero x h = absurd (nothing-in x h)
  made-in f a (suc n) x h =
      elim (Contains-append_cases (f a) (flat_map f (range_with_len (a + 1) n)) x (subst (λ xs. Contains xs x) (flat_map-cons f a (range_with_len (a + 1) n)) h)) [
        | inl here ↦ record { place = a; from = omega arith; below = omega arith; is = here }
        | inr there ↦ let m = made-in f (a + 1) n x there in record { place = m.place; from = omega (arith, m.from); below = omega (arith, m.below); is = m.is }
      ]

  pub made-all : (f : ℕ → List X) (a n p : ℕ) (x : X) → a ≤ p → p < a + n → Contains (f p) x → Contains (flat_map f (range_with_len a n)) x
  made-all f a zero p x from below is = absurd (omega arith)
  made-all f a (suc n) p x from below is =
      let rest = flat_map f (range_with_len (a + 1) n) in
      subst (λ xs. Contains xs x) (sym (flat_map-cons f a (range_with_len (a + 1) n)))
      (elim (cases_lt a p) [
        | inl later ↦ Contains-append_right (f a) (flat_map f (range_with_len (a + 1) n)) x (made-all f (a + 1) n p x (omega arith) (omega arith) is)
        | inr here ↦ let e : p ≡ a = omega arith in Contains-append_left (f a) (flat_map f (range_with_len (a + 1) n)) x (subst (λ q. Contains (f q) x) e is)
      ])

  -- lists in order, one behind the other
  pub pairs-append : (R : X → X → Type 0) (xs ys : List X) → AllPairs R xs → AllPairs R ys → ((x y : X) → Contains xs x → Contains ys y → R x y) → AllPairs R (xs ++ ys)
  pairs-append R [] ys a b less = b
  pairs-append R (x ∷ xs) ys a b less =
      AllPairs-cons R x (xs ++ ys)
      (λ k d lt.
      elim (Contains-append_cases xs ys (get_or (xs ++ ys) k d) (Contains-get_or (xs ++ ys) k d lt)) [
        | inl p ↦ let later = p.1 in subst (R x) p.2 (a 0 (suc p.0) (get_or (xs ++ ys) k d) (omega arith) (omega (arith, later)))
        | inr q ↦ less x (get_or (xs ++ ys) k d) (head-in x xs) q
      ])
      (pairs-append R xs ys (λ i j d more lt. a (suc i) (suc j) d (omega arith) (omega (arith, lt))) b (λ u v p q. less u v (tail-in x xs u p) q))

  pub pairs-made : (R : X → X → Type 0) (f : ℕ → List X) (a n : ℕ) → ((p : ℕ) → a ≤ p → p < a + n → AllPairs R (f p))
      → ((p q : ℕ) (x y : X) → a ≤ p → p < q → q < a + n → Contains (f p) x → Contains (f q) y → R x y) → AllPairs R (flat_map f (range_with_len a n))
  pairs-made R f a zero each less = λ i j d more lt. absurd (omega (arith, lt))
  pairs-made R f a (suc n) each less =
      subst (AllPairs R) (sym (flat_map-cons f a (range_with_len (a + 1) n)))
      (pairs-append R (f a) (flat_map f (range_with_len (a + 1) n)) (each a (omega arith) (omega arith))
      (pairs-made R f (a + 1) n (λ p from below. each p (omega arith) (omega arith)) (λ p q x y from more below. less p q x y (omega arith) more (omega arith)))
      (λ x y p q. let m = made-in f (a + 1) n y q in less a m.place x y (omega arith) (omega (arith, m.from)) (omega (arith, m.below)) p m.is))

  pub pairs-none : (R : X → X → Type 0) → AllPairs R []
  pairs-none R = λ i j d more lt. absurd (omega (arith, lt))

  pub pairs-one : (R : X → X → Type 0) (x : X) → AllPairs R (x ∷ [])
  pairs-one R x = λ i j d more lt. absurd (omega (arith, more, lt))
