-- Sets of places, as the bits of a number.
use Rattle.std.proofs.Common.{◌≡◌, ℕ, zero, suc, ◌+◌, ◌-◌, ◌*◌, ◌/◌, ◌%◌, ◌^◌, not, ◌<◌, ◌≤◌, ◌==◌, ◌||◌, max, min, true, false, nat_lt, refl, sym, ap, ◌∙◌, inl, inr, arith}
use Rattle.std.specs.Prelude.{bit_or, bit_and}
use Rattle.std.specs.Int.{bit_at, w128}
use Rattle.std.proofs.lemmas.Bool.{cases_lt, cases_eq, le-ltb, lt-ltb, eq-eqb, ne_eqb, or_left, eqb-true, false≢true}
use Rattle.std.proofs.Math.Pow.{pow-lt, pow_mono, shr-shr}
use Rattle.std.proofs.Math.Nat.{le_trans}
use Rattle.std.proofs.lemmas.Nat.{shr_below}
use Rattle.std.specs.Int.Bits.{and_lt}
use Rattle.std.specs.Int.{trailing_zeros}
use Rattle.std.proofs.lemmas.Nat.Bits.{shr_and_one, bit_at-zero, bit_at-lt, bit_at_lowest, bit_at-suc, bit_at_or, bit_at_and, bit_at_ones, bit_at_ones_above, bit_at_above, bit_at_set_same, bit_at_set_other, bit_at-trailing_zeros}
use Rattle.cpa_units.specs.Sets.{holds, Members, HaveCommon, IsNextMember, truths}

-- ---- members are bits

pub holds-truths : (more n r : ℕ) → r < more → holds (truths more n) r ≡ (bit_at n r == 1)
unfolding truths
holds-truths zero n r less = absurd (let none : ⊥ = omega (arith, less) in none)
holds-truths (suc more) n zero less = ap (λ b. b == 1) (sym (bit_at_lowest n))
holds-truths (suc more) n (suc r) less = holds-truths more (n / 2) r (omega (arith, less)) ∙ ap (λ b. b == 1) (sym (bit_at-suc n r))

pub holds-past : (more n r : ℕ) → more ≤ r → holds (truths more n) r ≡ false
unfolding truths
holds-past zero n r past = refl
holds-past (suc more) n zero past = absurd (let none : ⊥ = omega (arith, past) in none)
holds-past (suc more) n (suc r) past = holds-past more (n / 2) r (omega (arith, past))

-- ---- each call, by bits

pub none-holds : (r : ℕ) → holds (truths 128 0) r ≡ false
none-holds r =
    elim (cases_lt r 128) [
      | inl less ↦ holds-truths 128 0 r less ∙ ap (λ b. b == 1) (bit_at-zero r)
      | inr past ↦ holds-past 128 0 r past
    ]

pub first-holds : (count : ℕ) → count ≤ 128 → (r : ℕ) → holds (truths 128 (2 ^ count - 1)) r ≡ nat_lt r count
first-holds count few r =
    elim (cases_lt r 128) [
      | inl less ↦ elim (cases_lt r count) [
        | inl below ↦ holds-truths 128 (2 ^ count - 1) r less ∙ ap (λ b. b == 1) (bit_at_ones count r below) ∙ sym (lt-ltb r count below)
        | inr past ↦ holds-truths 128 (2 ^ count - 1) r less ∙ ap (λ b. b == 1) (bit_at_ones_above count r past) ∙ sym (le-ltb r count past)
      ]
      | inr past ↦ holds-past 128 (2 ^ count - 1) r past ∙ sym (le-ltb r count (omega arith))
    ]

or-one : (a b : ℕ) → a < 2 → b < 2 → (max a b == 1) ≡ (a == 1 || b == 1)
or-one zero zero ha hb = refl
or-one zero (suc zero) ha hb = refl
or-one (suc zero) zero ha hb = refl
or-one (suc zero) (suc zero) ha hb = refl
or-one (suc (suc a)) b ha hb = absurd (let none : ⊥ = omega (arith, ha) in none)
or-one zero (suc (suc b)) ha hb = absurd (let none : ⊥ = omega (arith, hb) in none)
or-one (suc zero) (suc (suc b)) ha hb = absurd (let none : ⊥ = omega (arith, hb) in none)

pub union-holds : (a b r : ℕ) → holds (truths 128 (bit_or a b)) r ≡ (holds (truths 128 a) r || holds (truths 128 b) r)
union-holds a b r =
    elim (cases_lt r 128) [
      | inl less ↦
          rw (holds-truths 128 (bit_or a b) r less, holds-truths 128 a r less, holds-truths 128 b r less, bit_at_or a b r)
          (or-one (bit_at a r) (bit_at b r) (bit_at-lt a r) (bit_at-lt b r))
      | inr past ↦ rw (holds-past 128 (bit_or a b) r past, holds-past 128 a r past, holds-past 128 b r past) refl
    ]

pub with-holds : (n k : ℕ) → k < 128 → (r : ℕ) → holds (truths 128 (bit_or n (1 * 2 ^ k % 2 ^ 128))) r ≡ (r == k || holds (truths 128 n) r)
with-holds n k within r =
    elim (cases_eq r k) [
      | inl same ↦
          let less : r < 128 = omega arith in
          let set : bit_at (bit_or n (1 * 2 ^ k % 2 ^ 128)) r ≡ 1 = rw same (bit_at_set_same w128 n k within) in
          holds-truths 128 (bit_or n (1 * 2 ^ k % 2 ^ 128)) r less ∙ ap (λ b. b == 1) set ∙ sym (or_left (r == k) (holds (truths 128 n) r) (eq-eqb r k same))
      | inr other ↦ rw (ne_eqb r k other) (others other)
    ]
  where
    others : (r ≡ k → ⊥) → holds (truths 128 (bit_or n (1 * 2 ^ k % 2 ^ 128))) r ≡ holds (truths 128 n) r
    others other =
        elim (cases_lt r 128) [
          | inl less ↦ holds-truths 128 (bit_or n (1 * 2 ^ k % 2 ^ 128)) r less ∙ ap (λ b. b == 1) (bit_at_set_other w128 n k within r other) ∙ sym (holds-truths 128 n r less)
          | inr past ↦ holds-past 128 (bit_or n (1 * 2 ^ k % 2 ^ 128)) r past ∙ sym (holds-past 128 n r past)
        ]

pub power : (k : ℕ) → k < 128 → 1 * 2 ^ k % 2 ^ 128 ≡ 2 ^ k
power k within = let small : 2 ^ k < 2 ^ 128 = pow-lt within in omega (arith, small)

pub has-holds : (n k : ℕ) → k < 128 → (bit_and (n / 2 ^ k) 1 == 1) ≡ holds (truths 128 n) k
has-holds n k within = ap (λ b. b == 1) (shr_and_one n k) ∙ sym (holds-truths 128 n k within)

-- a place that is a member of both
member : (n r : ℕ) → r < 128 → bit_at n r ≡ 1 → Members (truths 128 n) r
member n r less e = holds-truths 128 n r less ∙ eq-eqb (bit_at n r) 1 e

member-bit : (n r : ℕ) → Members (truths 128 n) r → (r < 128) × (bit_at n r ≡ 1)
member-bit n r m =
    elim (cases_lt r 128) [
      | inl less ↦ (less, eqb-true (bit_at n r) 1 (sym (holds-truths 128 n r less) ∙ m))
      | inr past ↦ absurd (false≢true (sym (holds-past 128 n r past) ∙ m))
    ]

pub meets-common : (a b : ℕ) → a < 2 ^ 128 → b < 2 ^ 128 → not (bit_and a b == 0) ≡ true → HaveCommon (truths 128 a) (truths 128 b)
meets-common a b small_a small_b e =
    let some : 0 < bit_and a b = elim (cases_lt 0 (bit_and a b)) [ inl less ↦ less | inr none ↦ absurd (false≢true (sym (ap not (eq-eqb (bit_and a b) 0 (omega arith))) ∙ e)) ] in
    let first = bit_at-trailing_zeros w128 (bit_and a b) some (and_lt 128 a b small_a small_b) in
    let r = trailing_zeros w128 (bit_and a b) in
    let least : min (bit_at a r) (bit_at b r) ≡ 1 = sym (bit_at_and a b r) ∙ first.1 in
    (r, member a r first.0 (omega (arith, bit_at-lt a r, bit_at-lt b r)), member b r first.0 (omega (arith, bit_at-lt a r, bit_at-lt b r)))

pub common-meets : (a b : ℕ) → HaveCommon (truths 128 a) (truths 128 b) → not (bit_and a b == 0) ≡ true
common-meets a b (r, m, n) =
    let bit : bit_at (bit_and a b) r ≡ 1 = bit_at_and a b r ∙ ap2 (member-bit a r m).1 (member-bit b r n).1 in
    ap not (ne_eqb (bit_and a b) 0 (λ e. let none : 0 ≡ 1 = sym (bit_at-zero r) ∙ (ap (λ k. bit_at k r) (sym e) ∙ bit) in absurd (let f : ⊥ = omega (arith, none) in f)))
  where
    ap2 : {x y : ℕ} → x ≡ 1 → y ≡ 1 → min x y ≡ 1
    ap2 e f = rw (e, f) refl

-- ---- the least member from a place on

bit_at-shifted : (n k i : ℕ) → bit_at (n / 2 ^ k) i ≡ bit_at n (k + i)
bit_at-shifted n k i = ap (λ x. x % 2) (shr-shr n k i)

holds-shifted : (n k r : ℕ) → k ≤ r → r < 128 → holds (truths 128 n) r ≡ (bit_at (n / 2 ^ k) (r - k) == 1)
holds-shifted n k r past less =
    let same : k + (r - k) ≡ r = omega (arith, past) in
    holds-truths 128 n r less ∙ ap (λ b. b == 1) (sym (bit_at-shifted n k (r - k) ∙ ap (bit_at n) same))

pub next-none : (n k : ℕ) → n / 2 ^ k ≡ 0 → (r : ℕ) → k ≤ r → holds (truths 128 n) r ≡ false
next-none n k e r past =
    elim (cases_lt r 128) [
      | inl less ↦ holds-shifted n k r past less ∙ ap (λ b. b == 1) (ap (λ m. bit_at m (r - k)) e ∙ bit_at-zero (r - k))
      | inr over ↦ holds-past 128 n r over
    ]

pub next-is : (n k : ℕ) → n < 2 ^ 128 → k < 128 → (n / 2 ^ k ≡ 0 → ⊥) → IsNextMember (truths 128 n) k (k + trailing_zeros w128 (n / 2 ^ k))
next-is n k small within some =
    let rest = n / 2 ^ k in
    let few : rest < 2 ^ (128 - k) = shr_below n (128 - k) k (let whole : 128 - k + k ≡ 128 = omega (arith, within) in rw whole small) in
    let less : rest < 2 ^ 128 = le_trans few (pow_mono {j = 128} (omega arith)) in
    let first = bit_at-trailing_zeros w128 rest (elim (cases_lt 0 rest) [ inl pos ↦ pos | inr none ↦ absurd (some (omega (arith, none))) ]) less in
    let z = trailing_zeros w128 rest in
    let bit : bit_at n (k + z) ≡ 1 = sym (bit_at-shifted n k z) ∙ first.1 in
    let there : k + z < 128 = elim (cases_lt (k + z) 128) [
      | inl it ↦ it
      | inr past ↦ absurd (let none : 0 ≡ 1 = sym (bit_at_above n 128 (k + z) small past) ∙ bit in let f : ⊥ = omega (arith, none) in f)
    ] in
    record {
      past = omega arith;
      small = there;
      member = member n (k + z) there bit;
      first = λ r past before.
          let low : r - k < z = omega (arith, past, before) in
          holds-shifted n k r past (omega (arith, before, there)) ∙ ap (λ b. b == 1) (first.2 (r - k) low);
    }
