-- What numbers in a buffer are, one after the other.
use Rattle.std.proofs.Common.{◌≡◌, ◌<◌, ◌+◌, ℕ, zero, suc, List, [], ◌∷◌, ◌++◌, length, map, take, drop, get_or, set, ap, arith, add-one, refl}

put-next : (ws old : List ℕ) (k x : ℕ) → k < length ws → k < length old → x ≡ get_or ws k 0 → set (take k ws ++ drop k old) k x ≡ take (suc k) ws ++ drop (suc k) old
put-next [] old k x hw ho e = absurd (omega arith)
put-next (w ∷ ws) [] k x hw ho e = absurd (omega arith)
put-next (w ∷ ws) (o ∷ old) zero x hw ho e = ap (λ v. v ∷ old) e
put-next (w ∷ ws) (o ∷ old) (suc k) x hw ho e = ap (λ vs. w ∷ vs) (put-next ws old k x (omega arith) (omega arith) e)

-- the next number of a list, written behind those before it
pub put-more : (ws old : List ℕ) (k x : ℕ) → k < length ws → k < length old → x ≡ get_or ws k 0 → set (take k ws ++ drop k old) k x ≡ take (k + 1) ws ++ drop (k + 1) old
put-more ws old k x hw ho e = rw add-one (put-next ws old k x hw ho e)

-- an element of a list that was mapped twice
pub get-mapped : {A B : Type 0} (f : B → ℕ) (g : A → B) (xs : List A) (k : ℕ) (d : A) → k < length xs → get_or (map f (map g xs)) k 0 ≡ f (g (get_or xs k d))
get-mapped f g [] k d h = absurd (omega arith)
get-mapped f g (x ∷ xs) zero d h = refl
get-mapped f g (x ∷ xs) (suc k) d h = get-mapped f g xs k d (omega arith)

-- an element of a list that was mapped
pub get-map : {A : Type 0} (f : A → ℕ) (xs : List A) (k : ℕ) (d : A) → k < length xs → get_or (map f xs) k 0 ≡ f (get_or xs k d)
get-map f [] k d h = absurd (omega arith)
get-map f (x ∷ xs) zero d h = refl
get-map f (x ∷ xs) (suc k) d h = get-map f xs k d (omega arith)
