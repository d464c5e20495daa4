-- From a moment of a clock up to the next that is another but for whole periods.
use Rattle.std.proofs.Common.{◌≡◌, ℕ, ◌+◌, ◌-◌, ◌*◌, ◌/◌, ◌%◌, ◌<◌, ◌≤◌, sym, arith}
use Rattle.std.proofs.lemmas.Nat.{same_from_place, mod_below, mod-mul-add, div-add-mod'}

-- from x up to a moment that is t, but for whole periods
abbrev pub up_to : ℕ → ℕ → ℕ → ℕ
up_to period t x = (t + (period - x % period)) % period

-- two moments that are one but for whole periods
one_place : (period t x a b q r near far : ℕ) → x + near + q * period ≡ t + r * period → x + far + a * period ≡ t + b * period → (q + b) * period + near ≡ (a + r) * period + far
one_place period t x a b q r near far here there = omega (arith, here, there)

module _ (period : ℕ) (regular : 0 < period) where
  pub up_to-less : (t x : ℕ) → up_to period t x < period
  up_to-less t x = mod_below (t + (period - x % period)) period regular

  -- x and so much later is t, but for whole periods
  pub up_to-meets : (t x : ℕ) → x + up_to period t x + (t + (period - x % period)) / period * period ≡ t + (1 + x / period) * period
  up_to-meets t x =
      let low = mod_below x period regular in
      let here = div-add-mod' x period in
      let there = div-add-mod' (t + (period - x % period)) period in
      omega (arith, low, here, there)

  -- nothing else below a period is
  pub up_to-only : (t x up a b : ℕ) → up < period → x + up + a * period ≡ t + b * period → up ≡ up_to period t x
  up_to-only t x up a b less meets =
      let there = up_to-meets t x in
      let same = one_place period t x ((t + (period - x % period)) / period) (1 + x / period) a b up (up_to period t x) meets there in
      (same_from_place (a + (1 + x / period)) up ((t + (period - x % period)) / period + b) (up_to period t x) period less (up_to-less t x) same).1

  -- a later start is so much nearer
  pub up_to-nearer : (t x d : ℕ) → d ≤ up_to period t x → up_to period t (x + d) ≡ up_to period t x - d
  up_to-nearer t x d near =
      sym (up_to-only t (x + d) (up_to period t x - d) ((t + (period - x % period)) / period) (1 + x / period) (omega (arith, up_to-less t x)) (omega (arith, up_to-meets t x)))

  -- moments that are the same but for whole periods see the same
  pub up_to-same : (t x y a b : ℕ) → x + a * period ≡ y + b * period → up_to period t x ≡ up_to period t y
  up_to-same t x y a b same =
      up_to-only t y (up_to period t x) ((t + (period - x % period)) / period + b) (1 + x / period + a) (up_to-less t x) (omega (arith, up_to-meets t x, same))

  -- by what is left of both moments but for whole periods
  pub up_to-near : (t x : ℕ) → x % period ≤ t % period → t % period - x % period ≡ up_to period t x
  up_to-near t x before =
      let from = div-add-mod' x period in
      let to = div-add-mod' t period in
      let less = mod_below t period regular in
      up_to-only t x (t % period - x % period) (t / period) (x / period) (omega (arith, less)) (omega (arith, from, to, before))

  pub up_to-far : (t x : ℕ) → t % period < x % period → t % period + period - x % period ≡ up_to period t x
  up_to-far t x after =
      let from = div-add-mod' x period in
      let to = div-add-mod' t period in
      let less = mod_below x period regular in
      up_to-only t x (t % period + period - x % period) (t / period) (x / period + 1) (omega (arith, after)) (omega (arith, from, to, less))

  -- each of the latest moments from x on is whole periods after the first
  pub up_to-later : (t x m : ℕ) → x ≤ t + m * period → (k : ℕ) × (t + m * period ≡ x + up_to period t x + k * period)
  up_to-later t x m le =
      let gap : ℕ = t + m * period - x in
      let split : gap / period * period + gap % period ≡ gap = div-add-mod' gap period in
      let same : gap % period ≡ up_to period t x = up_to-only t x (gap % period) (gap / period) m (mod_below gap period regular) (omega arith) in
      (gap / period, omega arith)

-- what is left of a moment within the second period
pub second_period : (x period : ℕ) → period ≤ x → x - period < period → x - period ≡ x % period
second_period x period late near =
    let e : 1 * period + (x - period) ≡ x = omega arith in
    let rest = mod-mul-add 1 period (x - period) near in
    sym (rw e at rest)
