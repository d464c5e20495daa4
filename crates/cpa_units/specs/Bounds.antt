-- Bounds with their order and arithmetic, and vectors of them. `Overload` is above every number.
use Rattle.std.specs.Prelude.{ℕ, zero, suc, ◌+◌, ◌-◌, ◌*◌, ◌≤◌, max, min, nat_le, Bool, true, false, List, [], ◌∷◌, slice_index_or}
use Rattle.cpa_units.specs.declared.bound.Bound.{Bound}
use Rattle.cpa_units.specs.declared.bound.Bound.TheVariants.{Within, Overload}

-- the first bound is at most the second
abbrev pub IsAtMost : Bound → Bound → Type 0
IsAtMost a Overload = Unit {0}
IsAtMost (Within a) (Within b) = a ≤ b
IsAtMost Overload (Within b) = ⊥

-- a number in this place is within the limit
abbrev pub RespectsLimit : ℕ → Bound → Type 0
RespectsLimit limit (Within a) = a ≤ limit
RespectsLimit limit Overload = Unit {0}

-- whether a bound is at most a number
abbrev pub fits : Bound → ℕ → Bool
fits (Within a) n = nat_le a n
fits Overload n = false

abbrev pub bound_plus : Bound → Bound → Bound
bound_plus (Within a) (Within b) = Within (a + b)
bound_plus (Within a) Overload = Overload
bound_plus Overload b = Overload

-- a number of times a positive number
abbrev pub bound_times : Bound → ℕ → Bound
bound_times (Within a) n = Within (a * n)
bound_times Overload n = Overload

abbrev pub bound_minus : Bound → ℕ → Bound
bound_minus (Within a) n = Within (a - n)
bound_minus Overload n = Overload

abbrev pub bound_max : Bound → Bound → Bound
bound_max (Within a) (Within b) = Within (max a b)
bound_max (Within a) Overload = Overload
bound_max Overload b = Overload

abbrev pub bound_min : Bound → Bound → Bound
bound_min a Overload = a
bound_min (Within a) (Within b) = Within (min a b)
bound_min Overload (Within b) = Within b

-- the bound itself up to a limit, and above it overload
abbrev pub capped : ℕ → Bound → Bound
capped limit (Within a) = elim (nat_le a limit) [ true ↦ Within a | false ↦ Overload ]
capped limit Overload = Overload

abbrev pub sum_bounds {ℓ} : {A : Type ℓ} → (A → Bound) → List A → Bound
sum_bounds f [] = Within 0
sum_bounds f (x ∷ xs) = bound_plus (f x) (sum_bounds f xs)

-- the greatest of `f 1` to `f last`
abbrev pub greatest_of : (ℕ → Bound) → ℕ → Bound
greatest_of f zero = Within 0
greatest_of f (suc last) = bound_max (greatest_of f last) (f (suc last))

-- what a vector has for a task
abbrev pub bound_of : List Bound → ℕ → Bound
bound_of x task = slice_index_or x task (Within 0)

-- the first vector is nowhere above the second
abbrev pub IsNowhereAbove : List Bound → List Bound → Type 0
IsNowhereAbove x y = (task : ℕ) → IsAtMost (bound_of x task) (bound_of y task)
