-- Lists by place: what loops over the places 0, 1, 2 and so on have made so far, and one place more.
use Rattle.std.proofs.Common.{◌≡◌, ℕ, ◌+◌, ◌<◌, Bool, true, false, List, [], ◌∷◌, ◌++◌, length, take, map, set, slice_index_or, refl, sym, ap, ◌∙◌, arith}
use Rattle.std.specs.Prelude.{filter}
use Rattle.std.specs.List.{range_with_len, flat_map}
use Rattle.std.proofs.lemmas.List.{take_all, take_more_set, map-append, map-id, append-nil, ext_get_or, get_or-map, length-map}
use Rattle.std.proofs.lemmas.List.Elements.{filter-append}
use Rattle.std.proofs.lemmas.List.FromFn.{map-range_with_len_more, length-map-range_with_len, get_or-map-range_with_len}
use Rattle.std.proofs.lemmas.Grind.{flat_map-append}

-- the places below k
abbrev pub places : ℕ → List ℕ
places k = range_with_len 0 k

pub places-more : (k : ℕ) → places (k + 1) ≡ places k ++ k ∷ []
places-more k =
    sym (map-id (places (k + 1))) ∙ map-range_with_len_more (λ i. i) 0 k k (omega arith) ∙ ap (λ xs. xs ++ k ∷ []) (map-id (places k))

pub map-places_more : {X : Type 0} (f : ℕ → X) (k : ℕ) → map f (places (k + 1)) ≡ map f (places k) ++ f k ∷ []
map-places_more f k = map-range_with_len_more f 0 k k (omega arith)

pub flat_map-places_more : {X : Type 0} (f : ℕ → List X) (k : ℕ) → flat_map f (places (k + 1)) ≡ flat_map f (places k) ++ f k
flat_map-places_more f k = ap (flat_map f) (places-more k) ∙ flat_map-append f (places k) (k ∷ []) ∙ ap (λ xs. flat_map f (places k) ++ xs) (append-nil (f k))

-- a place that passes a test, and one that doesn't
pub passing-places_more : {X : Type 0} (f : ℕ → X) (p : ℕ → Bool) (k : ℕ) → p k ≡ true → map f (filter p (places (k + 1))) ≡ map f (filter p (places k)) ++ f k ∷ []
passing-places_more f p k passes =
    let one : filter p (k ∷ []) ≡ k ∷ [] = rw passes refl in
    ap (λ js. map f (filter p js)) (places-more k) ∙ ap (map f) (filter-append p (places k) (k ∷ [])) ∙ map-append f (filter p (places k)) (filter p (k ∷ []))
    ∙ ap (λ js. map f (filter p (places k)) ++ map f js) one

pub failing-places_more : {X : Type 0} (f : ℕ → X) (p : ℕ → Bool) (k : ℕ) → p k ≡ false → map f (filter p (places (k + 1))) ≡ map f (filter p (places k))
failing-places_more f p k fails =
    let none : filter p (k ∷ []) ≡ [] = rw fails refl in
    ap (λ js. map f (filter p js)) (places-more k) ∙ ap (map f) (filter-append p (places k) (k ∷ [])) ∙ map-append f (filter p (places k)) (filter p (k ∷ []))
    ∙ ap (λ js. map f (filter p (places k)) ++ map f js) none ∙ append-nil (map f (filter p (places k)))

-- a list that is written place by place
pub set-places : {X : Type 0} (f : ℕ → X) (xs : List X) (k : ℕ) (x : X) → k < length xs → x ≡ f k → take k xs ≡ map f (places k) → take (k + 1) (set xs k x) ≡ map f (places (k + 1))
set-places f xs k x less e done =
    take_more_set xs k x less ∙ ap (λ ys. ys ++ x ∷ []) done ∙ ap (λ y. map f (places k) ++ y ∷ []) e ∙ sym (map-places_more f k)

-- and is written to its end
pub all-places : {X : Type 0} (f : ℕ → X) (xs : List X) (k n : ℕ) → length xs ≡ n → k ≡ n → take k xs ≡ map f (places k) → xs ≡ map f (places n)
all-places f xs k n long end done = sym (take_all k xs (omega arith)) ∙ done ∙ ap (λ j. map f (places j)) end

-- what is made of the entries at all places is what is made of all entries
pub map-all_places : {X Y : Type 0} (f : X → Y) (xs : List X) (d : X) → map (λ i. f (slice_index_or xs i d)) (places (length xs)) ≡ map f xs
map-all_places f xs d =
    ext_get_or (f d) (map (λ i. f (slice_index_or xs i d)) (places (length xs))) (map f xs)
    (length-map-range_with_len (λ i. f (slice_index_or xs i d)) 0 (length xs) ∙ sym (length-map xs f))
    (λ i less.
    let there : i < length xs = rw length-map-range_with_len at less in
    get_or-map-range_with_len (λ i. f (slice_index_or xs i d)) 0 (length xs) i i (f d) there (omega arith) ∙ sym (get_or-map f xs i d (f d) there))
