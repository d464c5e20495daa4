-- Bounds and the words that stand for them on a board.
use Rattle.std.proofs.Common.{◌≡◌, ℕ, zero, suc, ◌-◌, ◌^◌, ◌<◌, ◌≤◌, max, length, get_or, List, [], ◌∷◌, refl, sym, ◌∙◌, inl, inr, subst, arith}
use Rattle.std.proofs.lemmas.Bool.{cases_lt}
use Rattle.std.proofs.lemmas.List.{length-map}
use Rattle.cpa_units.specs.declared.bound.Bound.{Bound}
use Rattle.cpa_units.specs.declared.bound.Bound.TheVariants.{Within, Overload}
use Rattle.cpa_units.specs.declared.limits.TheConstants.{MAX_LIMIT}
use Rattle.cpa_units.specs.Bounds.{IsAtMost, RespectsLimit, IsNowhereAbove, bound_of}
use Rattle.cpa_units.specs.Words.{IsWordable, word_of}
use Rattle.cpa_units.proofs.BoundLaws.{IsAtMost_refl, IsAtMost_trans, capped-mono, capped-within, capped-past, capped-limit}
use Rattle.cpa_board.specs.Machine.{AreAtMost}
use Rattle.cpa_workers.specs.BoardWords.{bound_read, bound_at, words_of, IsNoLower}

-- greater words stand for no lower bounds
pub bound_read-mono : (m n : ℕ) → m ≤ n → IsAtMost (bound_read m) (bound_read n)
bound_read-mono m n h = capped-mono MAX_LIMIT (Within m) (Within n) h

pub bound_read-limit : (n : ℕ) → RespectsLimit MAX_LIMIT (bound_read n)
bound_read-limit n = capped-limit MAX_LIMIT (Within n)

-- a bound's word gives it back
pub bound_read-word : (b : Bound) → RespectsLimit MAX_LIMIT b → bound_read (word_of b) ≡ b
bound_read-word (Within n) h = capped-within MAX_LIMIT n h
bound_read-word Overload h = capped-past MAX_LIMIT (2 ^ 64 - 1) (omega arith)

-- a word up to that of a bound stands for no higher one
pub bound_read-below : (n : ℕ) (b : Bound) → RespectsLimit MAX_LIMIT b → n ≤ word_of b → IsAtMost (bound_read n) b
bound_read-below n b limit h = subst (IsAtMost (bound_read n)) (bound_read-word b limit) (bound_read-mono n (word_of b) h)

-- and one from it on for no lower one
pub bound_read-above : (n : ℕ) (b : Bound) → RespectsLimit MAX_LIMIT b → word_of b ≤ n → IsAtMost b (bound_read n)
bound_read-above n b limit h = subst (λ (c : Bound). IsAtMost c (bound_read n)) (bound_read-word b limit) (bound_read-mono (word_of b) n h)

pub bound_read-max : (m n : ℕ) (b : Bound) → IsAtMost (bound_read m) b → IsAtMost (bound_read n) b → IsAtMost (bound_read (max m n)) b
bound_read-max m n b h k =
    elim (cases_lt m n) [
      | inl less ↦ let e : max m n ≡ n = omega arith in rw e k
      | inr more ↦ let e : max m n ≡ m = omega arith in rw e h
    ]

-- words are in the order of bounds
pub word_of-mono : (a b : Bound) → RespectsLimit MAX_LIMIT a → IsAtMost a b → word_of a ≤ word_of b
word_of-mono (Within m) (Within n) limit h = h
word_of-mono (Within m) Overload limit h = omega arith
word_of-mono Overload (Within n) limit h = absurd h
word_of-mono Overload Overload limit h = omega arith

pub wordable : (b : Bound) → RespectsLimit MAX_LIMIT b → IsWordable b
wordable (Within n) h = omega arith
wordable Overload h = tt

-- the words of bounds, place by place
pub words_of-at : (x : List Bound) (i : ℕ) → get_or (words_of x) i 0 ≡ word_of (bound_of x i)
words_of-at [] i = refl
words_of-at (b ∷ x) zero = refl
words_of-at (b ∷ x) (suc i) = words_of-at x i

pub words-at_most : (x y : List Bound) → length x ≡ length y → ((i : ℕ) → i < length x → RespectsLimit MAX_LIMIT (bound_of x i)) → IsNowhereAbove x y → AreAtMost (words_of x) (words_of y)
words-at_most x y long limit h =
    record {
      long = length-map x word_of ∙ (long ∙ sym (length-map y word_of));
      each = λ i. rw (words_of-at x i, words_of-at y i) (word_of-mono (bound_of x i) (bound_of y i) (within x limit i) (h i));
    }
  where
    within : (z : List Bound) → ((i : ℕ) → i < length z → RespectsLimit MAX_LIMIT (bound_of z i)) → (i : ℕ) → RespectsLimit MAX_LIMIT (bound_of z i)
    within [] l i = omega arith
    within (b ∷ z) l zero = l 0 (omega arith)
    within (b ∷ z) l (suc i) = within z (λ j k. l (suc j) (let k' : suc j < length (b ∷ z) = omega arith in k')) i

pub IsNoLower_refl : (v : List ℕ) → IsNoLower v v
IsNoLower_refl v i = IsAtMost_refl (bound_at v i)

pub IsNoLower_trans : (u v w : List ℕ) → IsNoLower u v → IsNoLower v w → IsNoLower u w
IsNoLower_trans u v w h k i = IsAtMost_trans (bound_at u i) (bound_at v i) (bound_at w i) (h i) (k i)
