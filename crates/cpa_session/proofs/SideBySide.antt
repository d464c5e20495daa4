-- Lists side by side, entry by entry.
use Rattle.std.proofs.Common.{◌≡◌, Bool, false, List, [], ◌∷◌, map}
use Rattle.std.specs.List.{AllZip, list_any}
use Rattle.std.proofs.lemmas.Bool.{or_parts}

-- a list beside itself, where no entry passes a test
pub beside_none : {X : Type 0} (R : X → X → Type 0) (test : X → Bool) (xs : List X) → list_any test xs ≡ false → ((x : X) → test x ≡ false → R x x) → AllZip R xs xs
beside_none R test [] none each = tt
beside_none R test (x ∷ xs) none each =
    let parts = or_parts (test x) (list_any test xs) none in
    (each x parts.0, beside_none R test xs parts.1 each)

-- beside what is made of its entries, where none passes a test
pub beside_made : {X Y : Type 0} (R : X → Y → Type 0) (test : X → Bool) (f : X → Y) (xs : List X) → list_any test xs ≡ false → ((x : X) → test x ≡ false → R x (f x)) → AllZip R xs (map f xs)
beside_made R test f [] none each = tt
beside_made R test f (x ∷ xs) none each =
    let parts = or_parts (test x) (list_any test xs) none in
    (each x parts.0, beside_made R test f xs parts.1 each)
