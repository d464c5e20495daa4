-- The order of bounds and what their arithmetic keeps of it.
use Rattle.std.proofs.Common.{◌≡◌, ℕ, zero, suc, ◌-◌, ◌<◌, ◌≤◌, max, true, List, refl, ap, inl, inr, arith}
use Rattle.std.proofs.lemmas.Bool.{cases_lt, leb-true, le-leb, lt-leb, false≢true}
use Rattle.std.proofs.Math.Nat.{mul-le-mul, le-max_left, le-max_right, max-le, le_trans}
use Rattle.cpa_units.specs.declared.bound.Bound.{Bound}
use Rattle.cpa_units.specs.declared.bound.Bound.TheVariants.{Within, Overload}
use Rattle.cpa_units.specs.Bounds.{IsAtMost, RespectsLimit, fits, bound_plus, bound_times, bound_minus, bound_max, bound_min, capped, greatest_of, bound_of, IsNowhereAbove}

pub IsAtMost_refl : (a : Bound) → IsAtMost a a
IsAtMost_refl (Within a) = omega arith
IsAtMost_refl Overload = tt

pub IsAtMost_trans : (a b c : Bound) → IsAtMost a b → IsAtMost b c → IsAtMost a c
IsAtMost_trans a b Overload h k = tt
IsAtMost_trans a Overload (Within c) h k = absurd k
IsAtMost_trans (Within a) (Within b) (Within c) h k = omega arith
IsAtMost_trans Overload (Within b) (Within c) h k = absurd h

pub IsAtMost_antisymm : (a b : Bound) → IsAtMost a b → IsAtMost b a → a ≡ b
IsAtMost_antisymm (Within a) (Within b) h k = ap Within (omega arith)
IsAtMost_antisymm (Within a) Overload h k = absurd k
IsAtMost_antisymm Overload (Within b) h k = absurd h
IsAtMost_antisymm Overload Overload h k = refl

pub fits-true : (a : Bound) (n : ℕ) → fits a n ≡ true → IsAtMost a (Within n)
fits-true (Within a) n h = leb-true a n h
fits-true Overload n h = absurd (false≢true h)

pub fits-from : (a : Bound) (n : ℕ) → IsAtMost a (Within n) → fits a n ≡ true
fits-from (Within a) n h = le-leb a n h
fits-from Overload n h = absurd h

-- a bound is at most another where it is at most each number that the other is at most
pub IsAtMost-from_numbers : (a b : Bound) → ((n : ℕ) → b ≡ Within n → IsAtMost a (Within n)) → IsAtMost a b
IsAtMost-from_numbers a (Within n) h = h n refl
IsAtMost-from_numbers a Overload h = tt

pub zero_at_most : (a : Bound) → IsAtMost (Within 0) a
zero_at_most (Within a) = omega arith
zero_at_most Overload = tt

pub bound_plus-mono : (a b c d : Bound) → IsAtMost a b → IsAtMost c d → IsAtMost (bound_plus a c) (bound_plus b d)
bound_plus-mono a Overload c d h k = tt
bound_plus-mono a (Within b) c Overload h k = tt
bound_plus-mono (Within a) (Within b) (Within c) (Within d) h k = omega arith
bound_plus-mono (Within a) (Within b) Overload (Within d) h k = absurd k
bound_plus-mono Overload (Within b) c (Within d) h k = absurd h

bound_min-le_left : (a b : ℕ) (c : Bound) → a ≤ b → IsAtMost (bound_min (Within a) c) (Within b)
bound_min-le_left a b (Within c) h = omega arith
bound_min-le_left a b Overload h = h

bound_min-le_right : (a : Bound) (c d : ℕ) → c ≤ d → IsAtMost (bound_min a (Within c)) (Within d)
bound_min-le_right (Within a) c d h = omega arith
bound_min-le_right Overload c d h = h

pub bound_times-mono : (a b : Bound) (m n : ℕ) → IsAtMost a b → m ≤ n → IsAtMost (bound_times a m) (bound_times b n)
bound_times-mono a Overload m n h k = tt
bound_times-mono (Within a) (Within b) m n h k = mul-le-mul h k
bound_times-mono Overload (Within b) m n h k = absurd h

pub bound_minus-mono : (a b : Bound) (m n : ℕ) → IsAtMost a b → n ≤ m → IsAtMost (bound_minus a m) (bound_minus b n)
bound_minus-mono a Overload m n h k = tt
bound_minus-mono (Within a) (Within b) m n h k = omega arith
bound_minus-mono Overload (Within b) m n h k = absurd h

pub bound_min-mono : (a b c d : Bound) → IsAtMost a b → IsAtMost c d → IsAtMost (bound_min a c) (bound_min b d)
bound_min-mono a Overload c Overload h k = tt
bound_min-mono (Within a) (Within b) c Overload h k = bound_min-le_left a b c h
bound_min-mono Overload (Within b) c Overload h k = absurd h
bound_min-mono a b Overload (Within d) h k = absurd k
bound_min-mono a Overload (Within c) (Within d) h k = bound_min-le_right a c d k
bound_min-mono (Within a) (Within b) (Within c) (Within d) h k = omega arith
bound_min-mono Overload (Within b) (Within c) (Within d) h k = absurd h

pub le-bound_max_left : (a b : Bound) → IsAtMost a (bound_max a b)
le-bound_max_left (Within a) (Within b) = le-max_left _ _
le-bound_max_left (Within a) Overload = tt
le-bound_max_left Overload b = tt

pub le-bound_max_right : (a b : Bound) → IsAtMost b (bound_max a b)
le-bound_max_right (Within a) (Within b) = le-max_right _ _
le-bound_max_right (Within a) Overload = tt
le-bound_max_right Overload b = tt

pub bound_max-le : (a b c : Bound) → IsAtMost a c → IsAtMost b c → IsAtMost (bound_max a b) c
bound_max-le a b Overload h k = tt
bound_max-le (Within a) (Within b) (Within c) h k = max-le h k
bound_max-le (Within a) Overload (Within c) h k = absurd k
bound_max-le Overload b (Within c) h k = absurd h

pub capped-within : (limit a : ℕ) → a ≤ limit → capped limit (Within a) ≡ Within a
capped-within limit a h = rw (le-leb a limit h, capped) refl

pub capped-past : (limit a : ℕ) → limit < a → capped limit (Within a) ≡ Overload
capped-past limit a h = rw (lt-leb a limit h, capped) refl

pub capped-mono : (limit : ℕ) (a b : Bound) → IsAtMost a b → IsAtMost (capped limit a) (capped limit b)
capped-mono limit a Overload h = tt
capped-mono limit Overload (Within b) h = absurd h
capped-mono limit (Within a) (Within b) h =
    elim (cases_lt limit b) [
      | inl past ↦ rw (capped-past limit b past) tt
      | inr within ↦ rw (capped-within limit b within, capped-within limit a (le_trans h within)) h
    ]

-- the greatest is at most a bound exactly where each is
pub greatest_of-le : (f : ℕ → Bound) (last : ℕ) (b : Bound) → ((q : ℕ) → 0 < q → q ≤ last → IsAtMost (f q) b) → IsAtMost (greatest_of f last) b
greatest_of-le f zero Overload h = tt
greatest_of-le f zero (Within b) h = omega arith
greatest_of-le f (suc last) b h =
    bound_max-le (greatest_of f last) (f (suc last)) b (greatest_of-le f last b (λ q one le. h q one (omega arith))) (h (suc last) (omega arith) (omega arith))

pub le-greatest_of : (f : ℕ → Bound) (last q : ℕ) → 0 < q → q ≤ last → IsAtMost (f q) (greatest_of f last)
le-greatest_of f zero q one h = absurd (omega arith)
le-greatest_of f (suc last) q one h =
    elim (cases_lt last q) [
      | inl top ↦ let same : q ≡ suc last = omega arith in rw same (le-bound_max_right (greatest_of f last) (f (suc last)))
      | inr below ↦ IsAtMost_trans (f q) (greatest_of f last) (greatest_of f (suc last)) (le-greatest_of f last q one below) (le-bound_max_left (greatest_of f last) (f (suc last)))
    ]

pub greatest_of-mono : (f g : ℕ → Bound) (m n : ℕ) → m ≤ n → ((q : ℕ) → 0 < q → q ≤ m → IsAtMost (f q) (g q)) → IsAtMost (greatest_of f m) (greatest_of g n)
greatest_of-mono f g m n h k =
    greatest_of-le f m (greatest_of g n) (λ q one le. IsAtMost_trans (f q) (g q) (greatest_of g n) (k q one le) (le-greatest_of g n q one (omega arith)))

pub IsNowhereAbove_refl : (x : List Bound) → IsNowhereAbove x x
IsNowhereAbove_refl x task = IsAtMost_refl (bound_of x task)

pub IsNowhereAbove_trans : (x y z : List Bound) → IsNowhereAbove x y → IsNowhereAbove y z → IsNowhereAbove x z
IsNowhereAbove_trans x y z h k task = IsAtMost_trans (bound_of x task) (bound_of y task) (bound_of z task) (h task) (k task)

bound_max-overload : (a : Bound) → bound_max a Overload ≡ Overload
bound_max-overload (Within a) = refl
bound_max-overload Overload = refl

pub bound_plus-overload : (a : Bound) → bound_plus a Overload ≡ Overload
bound_plus-overload (Within a) = refl
bound_plus-overload Overload = refl

-- one part past every number leaves no greatest
pub greatest_of-overload : (f : ℕ → Bound) (last q : ℕ) → 0 < q → q ≤ last → f q ≡ Overload → greatest_of f last ≡ Overload
greatest_of-overload f zero q one le e = absurd (omega arith)
greatest_of-overload f (suc last) q one le e =
    elim (cases_lt last q) [
      | inl top ↦
          let same : q ≡ suc last = omega arith in
          let here = rw same at e in
          rw here (bound_max-overload (greatest_of f last))
      | inr below ↦ rw (greatest_of-overload f last q one below e) refl
    ]

-- one part more
pub greatest_of-next : (f : ℕ → Bound) (last greatest here : ℕ) → 0 < last → greatest_of f (last - 1) ≡ Within greatest → f last ≡ Within here → greatest_of f last ≡ Within (max greatest here)
greatest_of-next f zero greatest here some a b = absurd (omega arith)
greatest_of-next f (suc last) greatest here some a b =
    let e : suc last - 1 ≡ last = omega arith in
    rw (b, rw e at a) refl

-- ---- within a limit

pub bound_minus-limit : (limit n : ℕ) (a : Bound) → RespectsLimit limit a → RespectsLimit limit (bound_minus a n)
bound_minus-limit limit n (Within a) h = omega arith
bound_minus-limit limit n Overload h = tt

pub bound_max-limit : (limit : ℕ) (a b : Bound) → RespectsLimit limit a → RespectsLimit limit b → RespectsLimit limit (bound_max a b)
bound_max-limit limit (Within a) (Within b) h k = max-le h k
bound_max-limit limit (Within a) Overload h k = tt
bound_max-limit limit Overload b h k = tt

pub greatest_of-limit : (limit : ℕ) (f : ℕ → Bound) (last : ℕ) → ((q : ℕ) → RespectsLimit limit (f q)) → RespectsLimit limit (greatest_of f last)
greatest_of-limit limit f zero h = omega arith
greatest_of-limit limit f (suc last) h = bound_max-limit limit (greatest_of f last) (f (suc last)) (greatest_of-limit limit f last h) (h (suc last))

pub capped-limit : (limit : ℕ) (a : Bound) → RespectsLimit limit (capped limit a)
capped-limit limit Overload = tt
capped-limit limit (Within a) =
    elim (cases_lt limit a) [ inl past ↦ rw (capped-past limit a past) tt | inr within ↦ rw (capped-within limit a within) within ]

-- ---- at least a number

pub bound_minus-ge : (c n : ℕ) (a : Bound) → n ≡ 0 → IsAtMost (Within c) a → IsAtMost (Within c) (bound_minus a n)
bound_minus-ge c n (Within a) e h = omega arith
bound_minus-ge c n Overload e h = tt

pub bound_plus-ge_left : (c a : ℕ) (b : Bound) → c ≤ a → IsAtMost (Within c) (bound_plus (Within a) b)
bound_plus-ge_left c a (Within b) h = omega arith
bound_plus-ge_left c a Overload h = tt

pub bound_plus-ge_right : (c : ℕ) (a : Bound) → IsAtMost (Within c) (bound_plus a (Within c))
bound_plus-ge_right c (Within a) = omega arith
bound_plus-ge_right c Overload = tt

pub capped-ge : (limit c : ℕ) (a : Bound) → IsAtMost (Within c) a → IsAtMost (Within c) (capped limit a)
capped-ge limit c Overload h = tt
capped-ge limit c (Within a) h =
    elim (cases_lt limit a) [ inl past ↦ rw (capped-past limit a past) tt | inr within ↦ rw (capped-within limit a within) h ]
