-- Sums over the clocks.
use Rattle.std.proofs.Common.{◌≡◌, ℕ, zero, suc, ◌+◌, ◌<◌, ◌≤◌, ◌==◌, List, [], ◌∷◌, if◌then◌else◌, inl, inr, arith}
use Rattle.std.specs.List.{sum_by, range_with_len}
use Rattle.std.proofs.lemmas.Bool.{cases_lt, cases_Bool, eqb-true}
use Rattle.std.proofs.lemmas.List.Sums.{sum_by-cons}
use Rattle.cpa_units.specs.declared.bound.Bound.{Bound}
use Rattle.cpa_units.specs.declared.bound.Bound.TheVariants.{Within, Overload}
use Rattle.cpa_units.specs.Bounds.{IsAtMost, bound_plus}

-- what a bounded sum of two bounds has
pub plus-parts : (a b : Bound) (d : ℕ) → IsAtMost (bound_plus a b) (Within d) → (e : ℕ) × (r : ℕ) × IsAtMost a (Within e) × IsAtMost b (Within r) × (e + r ≤ d)
plus-parts (Within a) (Within b) d h = (a, b, omega arith, omega arith, h)
plus-parts (Within a) Overload d h = absurd h
plus-parts Overload b d h = absurd h

pub plus-within : (a b : Bound) (e r : ℕ) → IsAtMost a (Within e) → IsAtMost b (Within r) → IsAtMost (bound_plus a b) (Within (e + r))
plus-within (Within a) (Within b) e r h k = omega arith
plus-within (Within a) Overload e r h k = absurd k
plus-within Overload b e r h k = absurd h

pub sum-grows : (f g : ℕ → ℕ) (js : List ℕ) → ((j : ℕ) → f j ≤ g j) → sum_by f js ≤ sum_by g js
sum-grows f g [] all = omega arith
sum-grows f g (j ∷ js) all = omega (arith, all j, sum-grows f g js all, sum_by-cons f j js, sum_by-cons g j js)

-- the same where they grow up to the last of a range
pub range-grows : (f g : ℕ → ℕ) (first many : ℕ) → ((c : ℕ) → first ≤ c → c < first + many → f c ≤ g c) → sum_by f (range_with_len first many) ≤ sum_by g (range_with_len first many)
range-grows f g first zero all = omega arith
range-grows f g first (suc many) all =
    omega (
      arith,
      all first (omega arith) (omega arith),
      range-grows f g (first + 1) many (λ c low high. all c (omega arith) (omega arith)),
      sum_by-cons f first (range_with_len (first + 1) many),
      sum_by-cons g first (range_with_len (first + 1) many),
    )

-- where one of the numbers of a range grows by so much, and none falls, their sum grows by as much at least
pub range-more : (f g : ℕ → ℕ) (more first many c : ℕ) → ((j : ℕ) → f j ≤ g j) → more + f c ≤ g c → first ≤ c → c < first + many → more + sum_by f (range_with_len first many) ≤ sum_by g (range_with_len first many)
range-more f g more first zero c all here low high = absurd (omega arith)
range-more f g more first (suc many) c all here low high =
    let f_cons = sum_by-cons f first (range_with_len (first + 1) many) in
    let g_cons = sum_by-cons g first (range_with_len (first + 1) many) in
    elim (cases_lt first c) [
      | inl later ↦ omega (arith, f_cons, g_cons, all first, range-more f g more (first + 1) many c all here (omega arith) (omega arith))
      | inr now ↦
          let e : c ≡ first = omega arith in
          let here' = rw e at here in
          omega (arith, f_cons, g_cons, here', sum-grows f g (range_with_len (first + 1) many) all)
    ]

-- a number that one of them alone has more is all that their sum has more
counts-off : (n k c : ℕ) → (k < c) → (if k == c then n else 0) ≤ 0
counts-off n k c apart =
    elim (cases_Bool (k == c)) [
      | inl same ↦ absurd (let e : k ≡ c = eqb-true k c same in omega arith)
      | inr other ↦ rw other (omega arith)
    ]

counts-most : (n k c : ℕ) → (if k == c then n else 0) ≤ n
counts-most n k c = elim (cases_Bool (k == c)) [ inl same ↦ rw same (omega arith) | inr other ↦ rw other (omega arith) ]

pub range-once : (f g : ℕ → ℕ) (n k first many : ℕ) → ((c : ℕ) → g c ≤ f c + (if k == c then n else 0)) → sum_by g (range_with_len first many) ≤ sum_by f (range_with_len first many) + n
range-once f g n k first zero all = omega arith
range-once f g n k first (suc many) all =
    let f_cons = sum_by-cons f first (range_with_len (first + 1) many) in
    let g_cons = sum_by-cons g first (range_with_len (first + 1) many) in
    elim (cases_Bool (k == first)) [
      | inl same ↦
          let e : k ≡ first = eqb-true k first same in
          let rest = range-grows g f (first + 1) many (λ c low high. let off = counts-off n k c (omega arith) in omega (arith, all c, off)) in
          omega (arith, f_cons, g_cons, all first, counts-most n k first, rest)
      | inr other ↦
          let here : g first ≤ f first = (let h = rw other at (all first) in omega arith) in
          omega (arith, f_cons, g_cons, here, range-once f g n k (first + 1) many all)
    ]
