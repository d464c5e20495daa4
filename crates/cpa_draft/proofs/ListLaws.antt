-- Lists whose members pass a test, and what is made of them.
use Rattle.std.proofs.Common.{◌≡◌, ℕ, zero, suc, ◌<◌, Bool, true, false, not, List, [], ◌∷◌, ◌++◌, map, length, slice_index_or, All, refl, ap, arith}
use Rattle.std.specs.List.{list_all, list_any, AllPairs}
use Rattle.std.proofs.lemmas.Bool.{or_parts, false≢true, true≢false}
use Rattle.std.proofs.lemmas.List.Elements.{All-cons}
use Rattle.std.proofs.lemmas.List.Kept.{AllPairs-cons}
use Rattle.std.proofs.lemmas.List.Sums.{AllPass-from_list_all}

pub not-true : (b : Bool) → not b ≡ true → b ≡ false
not-true true h = absurd (false≢true h)
not-true false h = refl

-- what passes a test is there at each place
pub passes-at : {X : Type 0} (p : X → Bool) (xs : List X) (k : ℕ) (d : X) → list_all p xs ≡ true → k < length xs → p (slice_index_or xs k d) ≡ true
passes-at p xs k d h less = AllPass-from_list_all p xs h k d less

pub none-at : {X : Type 0} (p : X → Bool) (xs : List X) (k : ℕ) (d : X) → list_any p xs ≡ false → k < length xs → p (slice_index_or xs k d) ≡ false
none-at p [] k d h less = absurd (omega arith)
none-at p (x ∷ xs) zero d h less = (or_parts (p x) (list_any p xs) h).0
none-at p (x ∷ xs) (suc k) d h less = none-at p xs k d (or_parts (p x) (list_any p xs) h).1 (omega arith)

-- a fact about what is made of each member
pub all-map : {X Y : Type 0} (P : Y → Type 0) (f : X → Y) (xs : List X) → ((k : ℕ) (d : X) → k < length xs → P (f (slice_index_or xs k d))) → All P (map f xs)
all-map P f [] each = λ k d less. absurd (omega arith)
all-map P f (x ∷ xs) each = All-cons P (f x) (map f xs) (each 0 x (omega arith)) (all-map P f xs (λ k d less. each (suc k) d (omega arith)))

-- a fact about what is made of each two members
pub pairs-map : {X Y : Type 0} (R : Y → Y → Type 0) (f : X → Y) (xs : List X)
    → ((i j : ℕ) (d : X) → i < j → j < length xs → R (f (slice_index_or xs i d)) (f (slice_index_or xs j d))) → AllPairs R (map f xs)
pairs-map R f [] each = λ i j d before less. absurd (omega arith)
pairs-map R f (x ∷ xs) each =
    AllPairs-cons R (f x) (map f xs)
    (all-map (R (f x)) f xs (λ k d less. each 0 (suc k) d (omega arith) (omega arith)))
    (pairs-map R f xs (λ i j d before less. each (suc i) (suc j) d (omega arith) (omega arith)))

pub all-append : {X : Type 0} (P : X → Type 0) (xs ys : List X) → All P xs → All P ys → All P (xs ++ ys)
all-append P [] ys a b = b
all-append P (x ∷ xs) ys a b = All-cons P x (xs ++ ys) (a 0 x (omega arith)) (all-append P xs ys (λ k d less. a (suc k) d (omega arith)) b)

-- a fact about each two members of two lists
pub pairs-append : {X : Type 0} (R : X → X → Type 0) (xs ys : List X) → AllPairs R xs → AllPairs R ys → All (λ x. All (R x) ys) xs → AllPairs R (xs ++ ys)
pairs-append R [] ys a b c = b
pairs-append R (x ∷ xs) ys a b c =
    AllPairs-cons R x (xs ++ ys)
    (all-append (R x) xs ys (λ k d less. a 0 (suc k) d (omega arith) (omega arith)) (c 0 x (omega arith)))
    (pairs-append R xs ys (λ i j d before less. a (suc i) (suc j) d (omega arith) (omega arith)) b (λ k d less. c (suc k) d (omega arith)))

pub map-map : {X Y Z : Type 0} (f : X → Y) (g : Y → Z) (xs : List X) → map g (map f xs) ≡ map (λ x. g (f x)) xs
map-map f g [] = refl
map-map f g (x ∷ xs) = ap (λ zs. g (f x) ∷ zs) (map-map f g xs)

pub not-false : (b : Bool) → not b ≡ false → b ≡ true
not-false true h = refl
not-false false h = absurd (true≢false h)

-- a test of two lists
pub any-append : {X : Type 0} (p : X → Bool) (xs ys : List X) → list_any p (xs ++ ys) ≡ false → (list_any p xs ≡ false) × (list_any p ys ≡ false)
any-append p [] ys h = (refl, h)
any-append p (x ∷ xs) ys h =
    let a = or_parts (p x) (list_any p (xs ++ ys)) h in
    let b = any-append p xs ys a.1 in
    (rw (a.0, b.0), b.1)

-- a test that no member passes
pub none-any : {X : Type 0} (p : X → Bool) (xs : List X) → All (λ x. p x ≡ false) xs → list_any p xs ≡ false
none-any p [] each = refl
none-any p (x ∷ xs) each = rw (each 0 x (omega arith), none-any p xs (λ k d less. each (suc k) d (omega arith)))

-- a test that all members pass
pub all-list_all : {X : Type 0} (p : X → Bool) (xs : List X) → All (λ x. p x ≡ true) xs → list_all p xs ≡ true
all-list_all p [] each = refl
all-list_all p (x ∷ xs) each = rw (each 0 x (omega arith), all-list_all p xs (λ k d less. each (suc k) d (omega arith)))

-- a place within a list has no need of a default
pub get_or-any : {X : Type 0} (xs : List X) (k : ℕ) (d e : X) → k < length xs → slice_index_or xs k d ≡ slice_index_or xs k e
get_or-any [] k d e h = absurd (omega arith)
get_or-any (x ∷ xs) zero d e h = refl
get_or-any (x ∷ xs) (suc k) d e h = get_or-any xs k d e (omega arith)
