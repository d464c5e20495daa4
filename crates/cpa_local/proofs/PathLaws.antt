-- Sums along a path, one task more.
use Rattle.std.proofs.Common.{All, subst, ◌≡◌, ℕ, ◌+◌, List, [], ◌∷◌, ◌++◌, take, Some, refl, ap, sym, ◌∙◌, arith}
use Rattle.std.specs.Prelude.{slice_get}
use Rattle.std.specs.List.{sum_by}
use Rattle.std.proofs.lemmas.List.{take_more}
use Rattle.std.proofs.lemmas.Option.{slice_get_within, get_or_from_slice_get}
use Rattle.std.proofs.lemmas.List.Elements.{All-get_or}
use Rattle.std.proofs.lemmas.List.Sums.{sum_by_more}
use Rattle.cpa_units.specs.declared.bound.Bound.{Bound}
use Rattle.cpa_units.specs.declared.bound.Bound.TheVariants.{Within, Overload}
use Rattle.cpa_units.specs.Bounds.{RespectsLimit, bound_plus, sum_bounds}

plus-assoc : (a b c : Bound) → bound_plus (bound_plus a b) c ≡ bound_plus a (bound_plus b c)
plus-assoc Overload b c = refl
plus-assoc (Within a) Overload c = refl
plus-assoc (Within a) (Within b) Overload = refl
plus-assoc (Within a) (Within b) (Within c) = ap Within (omega arith)

plus-zero : (b : Bound) → bound_plus b (Within 0) ≡ bound_plus (Within 0) b
plus-zero Overload = refl
plus-zero (Within b) = ap Within (omega arith)

sum_bounds-last : {X : Type 0} (f : X → Bound) (xs : List X) (x : X) → sum_bounds f (xs ++ x ∷ []) ≡ bound_plus (sum_bounds f xs) (f x)
sum_bounds-last f [] x = plus-zero (f x)
sum_bounds-last f (y ∷ ys) x = ap (bound_plus (f y)) (sum_bounds-last f ys x) ∙ sym (plus-assoc (f y) (sum_bounds f ys) (f x))

take-get : {X : Type 0} (xs : List X) (k : ℕ) (x : X) → slice_get xs k ≡ Some x → take (k + 1) xs ≡ take k xs ++ x ∷ []
take-get xs k x at = take_more xs k x (slice_get_within xs k x at) ∙ ap (λ y. take k xs ++ y ∷ []) (get_or_from_slice_get xs k x x at)

pub sum_bounds-more : {X : Type 0} (f : X → Bound) (xs : List X) (k : ℕ) (x : X) → slice_get xs k ≡ Some x
    → sum_bounds f (take (k + 1) xs) ≡ bound_plus (sum_bounds f (take k xs)) (f x)
sum_bounds-more f xs k x at = ap (sum_bounds f) (take-get xs k x at) ∙ sum_bounds-last f (take k xs) x

pub plus-limit : (m n : ℕ) (a b : Bound) → RespectsLimit m a → RespectsLimit n b → RespectsLimit (m + n) (bound_plus a b)
plus-limit m n Overload b h k = tt
plus-limit m n (Within a) Overload h k = tt
plus-limit m n (Within a) (Within b) h k = omega (arith, h, k)

pub sum_by-more : {X : Type 0} (f : X → ℕ) (xs : List X) (k : ℕ) (x : X) → slice_get xs k ≡ Some x
    → sum_by f (take (k + 1) xs) ≡ sum_by f (take k xs) + f x
sum_by-more f xs k x at = sum_by_more f xs k x (slice_get_within xs k x at) ∙ ap (λ y. sum_by f (take k xs) + f y) (get_or_from_slice_get xs k x x at)

pub all-get : {X : Type 0} (P : X → Type 0) (xs : List X) (k : ℕ) (x : X) → slice_get xs k ≡ Some x → All P xs → P x
all-get P xs k x at all = subst P (get_or_from_slice_get xs k x x at) (All-get_or P xs k x (slice_get_within xs k x at) all)
