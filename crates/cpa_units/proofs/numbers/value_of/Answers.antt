use Rattle.std.proofs.Common.{◌≡◌, ℕ, ◌+◌, ◌*◌, ◌-◌, ◌^◌, ◌≤◌, true, get_or, add-one, arith}
use Rattle.std.specs.Char.{digit_value}
use Rattle.std.proofs.lemmas.Bool.Decides.{nat_tests}
use Rattle.std.proofs.lemmas.List.Sums.{AllPass-from_list_all}
use Rattle.std.proofs.lemmas.Int.Digits.{digits_value_more}
use native.Mathlib.Nat.{pow-suc}
use Rattle.cpa_units.specs.Digits.{is_digit}
use Rattle.cpa_units.proofs.numbers.value_of.Goals as goal

least : (b : ℕ) → is_digit b ≡ true → 48 ≤ b
least b e = grind (arith, nat_tests)

greatest : (b : ℕ) → is_digit b ≡ true → b ≤ 57
greatest b e = grind (arith, nat_tests)

value : (b : ℕ) → 48 ≤ b → b ≤ 57 → digit_value b ≡ b - 48
value b h k = grind (arith, nat_tests)

pub loop-digit-preserved : goal.loop-digit-preserved
loop-digit-preserved c =
    let digit = get_or c.args.digits.now c.loop-digit.digit-index 0 in
    let is = AllPass-from_list_all is_digit c.args.digits.now c.requires.digits c.loop-digit.digit-index 0 c.loop-digit-test.true in
    let low : 48 ≤ digit = least digit is in
    let high : digit ≤ 57 = greatest digit is in
    let grows : 10 ^ (c.loop-digit.digit-index + 1) ≡ 10 ^ c.loop-digit.digit-index * 10 = rw add-one (pow-suc 10 c.loop-digit.digit-index) in
    let more = digits_value_more 10 c.args.digits.now c.loop-digit.digit-index c.loop-digit-test.true in
    let this = value digit low high in
    record {
      small = omega (arith, grows);
      value = omega (arith, more, this);
    }
