-- One entry more in a list of values.
use Rattle.std.proofs.Common.{◌≡◌, ℕ, ◌+◌, List, [], ◌∷◌, ◌++◌, map, take, Some, refl, ap, ◌∙◌}
use Rattle.std.specs.Prelude.{slice_get}
use Rattle.std.specs.List.{range_with_len}
use Rattle.std.proofs.lemmas.List.{take_more, map-append}
use Rattle.std.proofs.lemmas.Option.{slice_get_within, get_or_from_slice_get}
use Rattle.cpa_units.proofs.PlaceLaws.{map-places_more}

take-get : {X : Type 0} (xs : List X) (k : ℕ) (x : X) → slice_get xs k ≡ Some x → take (k + 1) xs ≡ take k xs ++ x ∷ []
take-get xs k x at = take_more xs k x (slice_get_within xs k x at) ∙ ap (λ y. take k xs ++ y ∷ []) (get_or_from_slice_get xs k x x at)

pushed : {Y D : Type 0} (view : Y → D) (ys zs : List Y) (y : Y) (ds : List D) → zs ≡ ys ++ y ∷ [] → map view ys ≡ ds → map view zs ≡ ds ++ view y ∷ []
pushed view ys zs y ds new old = ap (map view) new ∙ map-append view ys (y ∷ []) ∙ ap (λ es. es ++ view y ∷ []) old

-- of the entries of a list
pub push-taken : {X Y D : Type 0} (view : Y → D) (f : X → D) (ys zs : List Y) (y : Y) (xs : List X) (k : ℕ) (x : X)
    → zs ≡ ys ++ y ∷ [] → slice_get xs k ≡ Some x → view y ≡ f x → map view ys ≡ map f (take k xs) → map view zs ≡ map f (take (k + 1) xs)
push-taken view f ys zs y xs k x new at same old = pushed view ys zs y (map f (take k xs)) new old ∙ (rw (take-get xs k x at, map-append, same) refl)

-- of the entries at places
pub push-placed : {Y D : Type 0} (view : Y → D) (f : ℕ → D) (ys zs : List Y) (y : Y) (k : ℕ)
    → zs ≡ ys ++ y ∷ [] → view y ≡ f k → map view ys ≡ map f (range_with_len 0 k) → map view zs ≡ map f (range_with_len 0 (k + 1))
push-placed view f ys zs y k new same old = pushed view ys zs y (map f (range_with_len 0 k)) new old ∙ (rw (map-places_more f k, same) refl)
