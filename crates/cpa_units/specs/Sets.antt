-- Sets of places, as lists of truth values.
use Rattle.std.proofs.Common.{ℕ, zero, suc, ◌+◌, ◌*◌, ◌/◌, ◌%◌, ◌^◌, ◌<◌, ◌≤◌, ◌==◌, ◌≡◌, Bool, true, false, cond, List, [], ◌∷◌, slice_index_or, refl, arith}

-- whether a place is a member
abbrev pub holds : List Bool → ℕ → Bool
holds set place = slice_index_or set place false

-- the members of a set
abbrev pub Members : List Bool → ℕ → Type 0
Members set place = holds set place ≡ true

-- two sets have a member in common
abbrev pub HaveCommon : List Bool → List Bool → Type 0
HaveCommon a b = (place : ℕ) × Members a place × Members b place

-- the least member from a place on
pub record IsNextMember (set : List Bool) (from place : ℕ) : Type 0 where
  pub past : from ≤ place
  pub small : place < 128
  pub member : Members set place
  pub first : (r : ℕ) → from ≤ r → r < place → holds set r ≡ false

-- so many bits of a number as truth values, from the lowest on
unfoldable pub truths : ℕ → ℕ → List Bool
truths zero number = []
truths (suc more) number = (number % 2 == 1) ∷ truths more (number / 2)

-- the number with these bits
unfoldable pub number_of : List Bool → ℕ
number_of [] = 0
number_of (b ∷ bs) = cond b 1 0 + 2 * number_of bs

-- a bit as a number
bit-is : (b : ℕ) → b < 2 → cond (b == 1) 1 0 ≡ b
bit-is zero less = refl
bit-is (suc zero) less = refl
bit-is (suc (suc b)) less = absurd (let none : ⊥ = omega (arith, less) in none)

-- the truth values of its bits give a number back
pub number_of-truths : (more n : ℕ) → n < 2 ^ more → number_of (truths more n) ≡ n
unfolding truths number_of
number_of-truths zero n small = omega arith
number_of-truths (suc more) n small =
    let rest = number_of-truths more (n / 2) (omega (arith, small)) in
    let low : n % 2 < 2 = omega arith in
    rw (bit-is (n % 2) low, rest) (omega arith)
