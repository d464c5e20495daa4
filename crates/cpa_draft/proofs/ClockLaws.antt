-- Clocks: least common multiples, and when a schedule repeats.
use Rattle.std.proofs.Common.{◌≡◌, ℕ, suc, ◌+◌, ◌*◌, ◌/◌, ◌%◌, ◌<◌, ◌≤◌, ◌&&◌, ◌||◌, ◌==◌, Bool, true, false, List, [], ◌∷◌, ◌++◌, refl, sym, ap, ◌∙◌, inl, inr, arith}
use Rattle.std.specs.Prelude.{fold, All, nat_lt}
use Rattle.std.specs.Int.{IsGcd, ◌∣◌}
use Rattle.std.proofs.Math.Nat.{dvd_of_mod-eq-zero, mod-eq-zero_of_dvd, dvd-mod_iff, dvd-mul_left, dvd-mul_right, dvd_trans, dvd_refl, le_of_dvd, dvd_antisymm, one-dvd, div-mul_cancel, mul-dvd-mul_right, dvd_of_mul-dvd-mul_right, mul_comm, mul_assoc, mul-pos, mul-dvd-mul_left, mul_right_comm, mul-div_assoc, add-mul, mod-zero, div-mul-le_self}
use Rattle.std.proofs.lemmas.Nat.{mod_below, le-div}
use Rattle.std.proofs.lemmas.List.Sums.{fold-append, fold_push, sum_by-append, sum_by-cons, sum_by_push}
use Rattle.std.proofs.lemmas.List.Elements.{All-cons}
use Rattle.std.proofs.lemmas.Bool.{and_parts, or_parts, ltb-false, le-ltb, eqb-true, eq-eqb, cases_lt}
use Rattle.cpa_units.specs.declared.limits.TheConstants.{MAX_PERIOD}
use Rattle.cpa_units.proofs.SearchLaws.{least_from-ge, least_from-least, least_from-passes}
use Rattle.cpa_draft.specs.declared.clocks.TheConstants.{MAX_STARTS}
use Rattle.cpa_draft.specs.Clocks.{least_common_multiple, common_cycle, starts_in, is_too_long, measure_of, joined}

-- a common multiple
abbrev is_common : ℕ → ℕ → ℕ → Bool
is_common a b k = (k % a == 0) && (k % b == 0)

common-parts : (a b k : ℕ) → is_common a b k ≡ true → (a ∣ k) × (b ∣ k)
common-parts a b k h =
    let p = and_parts (k % a == 0) (k % b == 0) h in
    (dvd_of_mod-eq-zero a (eqb-true _ _ p.0), dvd_of_mod-eq-zero b (eqb-true _ _ p.1))

parts-common : (a b k : ℕ) → a ∣ k → b ∣ k → is_common a b k ≡ true
parts-common a b k p q = rw (eq-eqb (k % a) 0 (mod-eq-zero_of_dvd a p), eq-eqb (k % b) 0 (mod-eq-zero_of_dvd b q)) refl

pub multiple-some : (a b : ℕ) → 0 < least_common_multiple a b
multiple-some a b = omega (arith, least_from-ge (is_common a b) 1 (a * b))

-- no common multiple is less
pub multiple-least : (a b k : ℕ) → 0 < k → a ∣ k → b ∣ k → least_common_multiple a b ≤ k
multiple-least a b k some p q = least_from-least (is_common a b) 1 (a * b) k (omega arith) (parts-common a b k p q)

module _ (a b : ℕ) (above : 0 < a) (over : 0 < b) where
  product-some : 0 < a * b
  product-some = mul-pos above over

  multiple-common : (a ∣ least_common_multiple a b) × (b ∣ least_common_multiple a b)
  multiple-common =
      let within = multiple-least a b (a * b) product-some (dvd-mul_right a b) (dvd-mul_left b a) in
      common-parts a b _ (least_from-passes (is_common a b) 1 (a * b) (omega arith))

  -- it is a common multiple
  pub multiple-of_first : a ∣ least_common_multiple a b
  multiple-of_first = multiple-common.0

  pub multiple-of_second : b ∣ least_common_multiple a b
  multiple-of_second = multiple-common.1

  -- and divides each
  pub multiple-divides : (k : ℕ) → a ∣ k → b ∣ k → least_common_multiple a b ∣ k
  multiple-divides k p q =
      let l = least_common_multiple a b in
      let below = mod_below k l (multiple-some a b) in
      dvd_of_mod-eq-zero l (elim (cases_lt 0 (k % l)) [
        | inl some ↦ absurd (let least = multiple-least a b (k % l) some ((dvd-mod_iff a multiple-of_first).1 p) ((dvd-mod_iff b multiple-of_second).1 q) in omega arith)
        | inr none ↦ omega arith
      ])

  -- the product, divided by the greatest common divisor
  module _ (g : ℕ) (greatest : IsGcd a b g) where
    pub divisor-some : 0 < g
    divisor-some = elim (cases_lt 0 g) [
      | inl some ↦ some
      | inr none ↦ absurd (let e : g ≡ 0 = omega arith in let h : a % 0 ≡ 0 = rw e at (mod-eq-zero_of_dvd g greatest.0) in omega (arith, h, mod-zero a))
    ]

    times_divisor : (a / g * b) * g ≡ a * b
    times_divisor = mul_right_comm (a / g) b g ∙ ap (λ n. n * b) (div-mul_cancel g greatest.0)

    common_first : a ∣ a / g * b
    common_first =
        let e : a * (b / g) ≡ a / g * b =
        ap (λ n. n * (b / g)) (sym (div-mul_cancel g greatest.0)) ∙ mul_assoc (a / g) g (b / g) ∙ ap (λ n. a / g * n) (mul_comm g (b / g) ∙ div-mul_cancel g greatest.1) in
        rw e at (dvd-mul_right a (b / g))

    by_divisor : (l : ℕ) → a ∣ l → b ∣ l → ((k : ℕ) → a ∣ k → b ∣ k → l ∣ k) → l ≡ a / g * b
    by_divisor l of_first of_second divides =
        let whole : l ∣ a * b = divides (a * b) (dvd-mul_right a b) (dvd-mul_left b a) in
        let h = a * b / l in
        let product : h * l ≡ a * b = div-mul_cancel l whole in
        let turned : h * l ≡ b * a = product ∙ mul_comm a b in
        let in_first : h ∣ a = dvd_of_mul-dvd-mul_right h over (rw product at (mul-dvd-mul_left b h of_second)) in
        let in_second : h ∣ b = dvd_of_mul-dvd-mul_right h above (rw turned at (mul-dvd-mul_left a h of_first)) in
        let common : h ∣ g = greatest.2 h in_first in_second in
        let scaled : h * l ∣ g * l = mul-dvd-mul_right h common l in
        let back : a / g * b ∣ l = dvd_of_mul-dvd-mul_right (a / g * b) divisor-some (rw (times_divisor, ← product, mul_comm l g) scaled) in
        dvd_antisymm (divides (a / g * b) common_first (dvd-mul_left b (a / g))) back

    pub multiple-by_divisor : least_common_multiple a b ≡ a / g * b
    multiple-by_divisor = by_divisor (least_common_multiple a b) multiple-of_first multiple-of_second multiple-divides

head-of : {X : Type 0} (P : X → Type 0) (x : X) (xs : List X) → All P (x ∷ xs) → P x
head-of P x xs each = each 0 x (omega arith)

rest-of : {X : Type 0} (P : X → Type 0) (x : X) (xs : List X) → All P (x ∷ xs) → All P xs
rest-of P x xs each = λ k d less. each (suc k) d (omega arith)

abbrev Above : ℕ → Type 0
Above n = 0 < n

fold_some : (a : ℕ) (ps : List ℕ) → 0 < a → 0 < fold least_common_multiple a ps
fold_some a [] some = some
fold_some a (p ∷ ps) some = fold_some (least_common_multiple a p) ps (multiple-some a p)

fold_first : (a : ℕ) (ps : List ℕ) → 0 < a → All Above ps → a ∣ fold least_common_multiple a ps
fold_first a [] some each = dvd_refl a
fold_first a (p ∷ ps) some each =
    dvd_trans a (multiple-of_first a p some (head-of Above p ps each)) (fold_first (least_common_multiple a p) ps (multiple-some a p) (rest-of Above p ps each))

fold_each : (a : ℕ) (ps : List ℕ) → 0 < a → All Above ps → All (λ p. p ∣ fold least_common_multiple a ps) ps
fold_each a [] some each = λ k d less. absurd (omega arith)
fold_each a (p ∷ ps) some each =
    let m = least_common_multiple a p in
    let rest = rest-of Above p ps each in
    All-cons (λ q. q ∣ fold least_common_multiple m ps) p ps
    (dvd_trans p (multiple-of_second a p some (head-of Above p ps each)) (fold_first m ps (multiple-some a p) rest))
    (fold_each m ps (multiple-some a p) rest)

fold_least : (a k : ℕ) (ps : List ℕ) → 0 < a → All Above ps → a ∣ k → All (λ p. p ∣ k) ps → fold least_common_multiple a ps ∣ k
fold_least a k [] some each first others = first
fold_least a k (p ∷ ps) some each first others =
    fold_least (least_common_multiple a p) k ps (multiple-some a p) (rest-of Above p ps each)
    (multiple-divides a p some (head-of Above p ps each) k first (head-of (λ q. q ∣ k) p ps others))
    (rest-of (λ q. q ∣ k) p ps others)

pub cycle-some : (ps : List ℕ) → 0 < common_cycle ps
cycle-some ps = fold_some 1 ps (omega arith)

cycle-each : (ps : List ℕ) → All Above ps → All (λ p. p ∣ common_cycle ps) ps
cycle-each ps each = fold_each 1 ps (omega arith) each

-- a cycle is a whole number of each period
pub cycle-whole : (ps : List ℕ) → All (λ p. 0 < p) ps → All (λ p. common_cycle ps % p ≡ 0) ps
cycle-whole ps each = λ k d less. mod-eq-zero_of_dvd _ (cycle-each ps each k d less)

-- and what is a whole number of each period is one of cycles
pub cycle-divides : (ps : List ℕ) (n : ℕ) → All (λ p. 0 < p) ps → All (λ p. n % p ≡ 0) ps → n % common_cycle ps ≡ 0
cycle-divides ps n each whole =
    mod-eq-zero_of_dvd (common_cycle ps) (fold_least 1 n ps (omega arith) each (one-dvd n) (λ k d less. dvd_of_mod-eq-zero _ (whole k d less)))

-- the cycle of some periods divides that of these and more
cycle-within : (ps qs : List ℕ) → All Above qs → common_cycle ps ∣ common_cycle (ps ++ qs)
cycle-within ps qs each = rw fold-append (fold_first (common_cycle ps) qs (cycle-some ps) each)

pub cycle-part : (ps qs : List ℕ) → All (λ p. 0 < p) qs → common_cycle ps ≤ common_cycle (ps ++ qs)
cycle-part ps qs each = le_of_dvd (cycle-some (ps ++ qs)) (cycle-within ps qs each)

div-grows : (n m k : ℕ) → 0 < k → n ≤ m → n / k ≤ m / k
div-grows n m k some le = le-div (n / k) m k some (let h = div-mul-le_self n k in omega arith)

starts-grow : (c d : ℕ) (ps : List ℕ) → All Above ps → c ≤ d → starts_in c ps ≤ starts_in d ps
starts-grow c d [] each le = omega arith
starts-grow c d (p ∷ ps) each le =
    rw (sum_by-cons (λ q. c / q) p ps, sum_by-cons (λ q. d / q) p ps)
    (let here = div-grows c d p (head-of Above p ps each) le in let rest = starts-grow c d ps (rest-of Above p ps each) le in omega arith)

pub starts-part : (ps qs : List ℕ) → All (λ p. 0 < p) ps → All (λ p. 0 < p) qs → starts_in (common_cycle ps) ps ≤ starts_in (common_cycle (ps ++ qs)) (ps ++ qs)
starts-part ps qs each others =
    let d = common_cycle (ps ++ qs) in
    rw (sum_by-append (λ q. d / q) ps qs)
    (let most = starts-grow (common_cycle ps) d ps each (cycle-part ps qs others) in omega arith)

-- what is too long with fewer periods is so with more
or_long : (a b c d : ℕ) → a ≤ c → b ≤ d → (nat_lt MAX_PERIOD c || nat_lt MAX_STARTS d) ≡ false → (nat_lt MAX_PERIOD a || nat_lt MAX_STARTS b) ≡ false
or_long a b c d p q h =
    let both = or_parts (nat_lt MAX_PERIOD c) (nat_lt MAX_STARTS d) h in
    let first : c ≤ MAX_PERIOD = ltb-false _ _ both.0 in
    let second : d ≤ MAX_STARTS = ltb-false _ _ both.1 in
    rw (le-ltb MAX_PERIOD a (omega arith), le-ltb MAX_STARTS b (omega arith)) refl

pub part-short : (ps qs : List ℕ) → All (λ p. 0 < p) ps → All (λ p. 0 < p) qs → is_too_long (ps ++ qs) ≡ false → is_too_long ps ≡ false
part-short ps qs each others short = or_long _ _ _ _ (cycle-part ps qs others) (starts-part ps qs each others) short

-- the measure with one more period
whole-times : (c d p : ℕ) → p ∣ c → c ∣ d → d / p ≡ c / p * (d / c)
whole-times c d p first second =
    ap (λ n. n / p) (sym (div-mul_cancel c second)) ∙ mul-div_assoc p (d / c) first ∙ mul_comm (d / c) (c / p)

starts-scaled : (c d : ℕ) (ps : List ℕ) → All (λ p. p ∣ c) ps → c ∣ d → starts_in d ps ≡ starts_in c ps * (d / c)
starts-scaled c d [] each whole = omega arith
starts-scaled c d (p ∷ ps) each whole =
    let here = whole-times c d p (head-of (λ q. q ∣ c) p ps each) whole in
    let rest = starts-scaled c d ps (rest-of (λ q. q ∣ c) p ps each) whole in
    sum_by-cons (λ q. d / q) p ps ∙ rw (here, rest) (sym (add-mul (c / p) (starts_in c ps) (d / c))) ∙ ap (λ n. n * (d / c)) (sym (sum_by-cons (λ q. c / q) p ps))

pub measure-more : (ps : List ℕ) (p : ℕ) → All (λ q. 0 < q) ps → 0 < p → measure_of (ps ++ p ∷ []) ≡ joined (measure_of ps) p
measure-more ps p each some =
    let c = common_cycle ps in
    let d = least_common_multiple c p in
    let cycle : common_cycle (ps ++ p ∷ []) ≡ d = fold_push least_common_multiple 1 ps p in
    let starts : starts_in d (ps ++ p ∷ []) ≡ starts_in c ps * (d / c) + d / p =
    sum_by_push (λ q. d / q) ps p ∙ ap (λ n. n + d / p) (starts-scaled c d ps (cycle-each ps each) (multiple-of_first c p (cycle-some ps) some)) in
    rw (cycle, starts) refl
