-- The greatest of some numbers.
use Rattle.std.proofs.Common.{◌≡◌, ℕ, zero, suc, ◌+◌, ◌<◌, ◌≤◌, max, List, [], ◌∷◌, refl, ◌∙◌, ap, inl, inr, arith}
use Rattle.std.specs.Prelude.{fold}
use Rattle.std.specs.List.{range_with_len}
use Rattle.std.proofs.lemmas.Bool.{cases_lt}
use Rattle.cpa_buffer.specs.Buffers.{highest}

module _ (f : ℕ → ℕ) where
  abbrev greatest_from : ℕ → List ℕ → ℕ
  greatest_from so_far ts = fold (λ most t. max most (f t)) so_far ts

  from-ge : (so_far : ℕ) (ts : List ℕ) → so_far ≤ greatest_from so_far ts
  from-ge so_far [] = omega arith
  from-ge so_far (t ∷ ts) = omega (arith, from-ge (max so_far (f t)) ts)

  range-ge : (so_far a n t : ℕ) → a ≤ t → t < a + n → f t ≤ greatest_from so_far (range_with_len a n)
  range-ge so_far a zero t low high = absurd (omega arith)
  range-ge so_far a (suc n) t low high =
      elim (cases_lt a t) [
        | inl later ↦ range-ge (max so_far (f a)) (a + 1) n t (omega arith) (omega arith)
        | inr here ↦
            let e : f t ≡ f a = ap f (omega arith) in
            omega (arith, e, from-ge (max so_far (f a)) (range_with_len (a + 1) n))
      ]

  range-le : (so_far b a n : ℕ) → so_far ≤ b → ((t : ℕ) → f t ≤ b) → greatest_from so_far (range_with_len a n) ≤ b
  range-le so_far b a zero h all = h
  range-le so_far b a (suc n) h all = range-le (max so_far (f a)) b (a + 1) n (omega (arith, h, all a)) all

  pub greatest-ge : (last t : ℕ) → t ≤ last → f t ≤ highest f last
  greatest-ge last t within = range-ge 0 0 (last + 1) t (omega arith) (omega arith)

  pub greatest-le : (last b : ℕ) → ((t : ℕ) → f t ≤ b) → highest f last ≤ b
  greatest-le last b all = range-le 0 b 0 (last + 1) (omega arith) all

range-agree : (f g : ℕ → ℕ) (so_far a n : ℕ) → ((t : ℕ) → t < a + n → f t ≡ g t) → fold (λ most t. max most (f t)) so_far (range_with_len a n) ≡ fold (λ most t. max most (g t)) so_far (range_with_len a n)
range-agree f g so_far a zero same = refl
range-agree f g so_far a (suc n) same =
    ap (λ v. fold (λ most t. max most (f t)) (max so_far v) (range_with_len (a + 1) n)) (same a (omega arith))
    ∙ range-agree f g (max so_far (g a)) (a + 1) n (λ t less. same t (omega arith))

pub greatest-agree : (f g : ℕ → ℕ) (last : ℕ) → ((t : ℕ) → t ≤ last → f t ≡ g t) → highest f last ≡ highest g last
greatest-agree f g last same = range-agree f g 0 0 (last + 1) (λ t less. same t (omega arith))
