-- The first place by recursion, and what it says of the entries.
use Rattle.std.proofs.Common.{◌≡◌, ℕ, zero, suc, ◌+◌, ◌<◌, ◌≤◌, Bool, true, false, cond, List, [], ◌∷◌, map, length, take, drop, get_or, Option, Some, None, refl, sym, ap, ◌∙◌, arith, add-zero, zero-add, ◌++◌, append_assoc}
use Rattle.std.specs.List.{position_from, enumerate_from}
use Rattle.std.proofs.lemmas.List.{drop_all, drop_more, take_more, length-map, get_or-map}
use Rattle.std.proofs.lemmas.Option.{none-some}
use Rattle.std.proofs.lemmas.Iterator.Adapters.{position_from-zero}
use Rattle.cpa_draft.specs.First.{first_place}

-- the first marked place, counting from k
abbrev pub first_from : {X : Type 0} → (ℕ → X → Bool) → ℕ → List X → Option ℕ
first_from marks k [] = None
first_from marks k (x ∷ xs) = cond (marks k x) (Some k) (first_from marks (k + 1) xs)

from_enumerated : {X : Type 0} (marks : ℕ → X → Bool) (k : ℕ) (xs : List X) → position_from (λ e. marks e.0 e.1) k (enumerate_from k xs) ≡ first_from marks k xs
from_enumerated marks k [] = refl
from_enumerated marks k (x ∷ xs) = ap (λ r. cond (marks k x) (Some k) r) (from_enumerated marks (k + 1) xs)

pub first_place-from : {X : Type 0} (marks : ℕ → X → Bool) (xs : List X) → first_place marks xs ≡ first_from marks 0 xs
first_place-from marks xs = position_from-zero (λ e. marks e.0 e.1) (enumerate_from 0 xs) ∙ from_enumerated marks 0 xs

cond_none : {X : Type 0} (b : Bool) (x : X) (o : Option X) → cond b (Some x) o ≡ None → (b ≡ false) × (o ≡ None)
cond_none true x o e = absurd (none-some x (sym e))
cond_none false x o e = (refl, e)

-- where nothing is marked, no entry is
pub none_from : {X : Type 0} (marks : ℕ → X → Bool) (n : ℕ) (xs : List X) (k : ℕ) (d : X) → first_from marks n xs ≡ None → k < length xs → marks (n + k) (get_or xs k d) ≡ false
none_from marks n [] k d e h = absurd (omega arith)
none_from marks n (x ∷ xs) zero d e h = rw add-zero (cond_none (marks n x) n (first_from marks (n + 1) xs) e).0
none_from marks n (x ∷ xs) (suc k) d e h =
    let p : n + suc k ≡ (n + 1) + k = omega arith in
    rw p (none_from marks (n + 1) xs k d (cond_none (marks n x) n (first_from marks (n + 1) xs) e).1 (omega arith))

pub none_marked : {X : Type 0} (marks : ℕ → X → Bool) (xs : List X) (k : ℕ) (d : X) → first_place marks xs ≡ None → k < length xs → marks k (get_or xs k d) ≡ false
none_marked marks xs k d e h = let f = none_from marks 0 xs k d (sym (first_place-from marks xs) ∙ e) h in rw zero-add at f

-- a walk that has passed so many entries, none of which is marked: it stops at one that is, goes on past one that isn't, and
-- finds none at the end
module _ {X : Type 0} (marks : ℕ → X → Bool) (xs : List X) (k : ℕ) (passed : first_from marks 0 xs ≡ first_from marks k (drop k xs)) where
  step_from : (x : X) → k < length xs → x ≡ get_or xs k x → first_from marks 0 xs ≡ cond (marks k x) (Some k) (first_from marks (k + 1) (drop (k + 1) xs))
  step_from x h at = passed ∙ rw (drop_more xs k x h, ← at)

  pub stops_at : (x : X) → k < length xs → x ≡ get_or xs k x → marks k x ≡ true → Some k ≡ first_place marks xs
  stops_at x h at marked = sym (first_place-from marks xs ∙ (rw marked at (step_from x h at)))

  pub goes_past : (x : X) → k < length xs → x ≡ get_or xs k x → marks k x ≡ false → first_from marks 0 xs ≡ first_from marks (k + 1) (drop (k + 1) xs)
  goes_past x h at unmarked = rw unmarked at (step_from x h at)

  pub finds_none : length xs ≤ k → None ≡ first_place marks xs
  finds_none past = sym (first_place-from marks xs ∙ passed ∙ rw (drop_all k xs past))

-- one more name at the end
pub names_more : {X : Type 0} (name : X → List ℕ) (old : List (List ℕ)) (xs : List X) (k : ℕ) (x : X) → k < length xs → x ≡ get_or xs k x
    → (old ++ take k (map name xs)) ++ name x ∷ [] ≡ old ++ take (k + 1) (map name xs)
names_more name old xs k x h at =
    let long : k < length (map name xs) = rw length-map h in
    rw (take_more (map name xs) k (name x) long, get_or-map name xs k x (name x) h, ← at) (append_assoc old (take k (map name xs)) (name x ∷ []))

-- and where no entry is marked, nothing is found
pub from_unmarked : {X : Type 0} (marks : ℕ → X → Bool) (n : ℕ) (xs : List X) → ((k : ℕ) (d : X) → k < length xs → marks (n + k) (get_or xs k d) ≡ false) → first_from marks n xs ≡ None
from_unmarked marks n [] each = refl
from_unmarked marks n (x ∷ xs) each =
    let here : marks n x ≡ false = rw add-zero at (each 0 x (omega arith)) in
    rw here (from_unmarked marks (n + 1) xs (λ k d h. let p : (n + 1) + k ≡ n + suc k = omega arith in rw p (each (suc k) d (omega arith))))

pub all_unmarked : {X : Type 0} (marks : ℕ → X → Bool) (xs : List X) → ((k : ℕ) (d : X) → k < length xs → marks k (get_or xs k d) ≡ false) → first_place marks xs ≡ None
all_unmarked marks xs each = first_place-from marks xs ∙ from_unmarked marks 0 xs (λ k d h. rw zero-add (each k d h))

-- tests that mark the same places of two lists find the same place
pub agree_from : {X Y : Type 0} (marks : ℕ → X → Bool) (others : ℕ → Y → Bool) (n : ℕ) (xs : List X) (ys : List Y) → length xs ≡ length ys
    → ((k : ℕ) (d : X) (e : Y) → k < length xs → marks (n + k) (get_or xs k d) ≡ others (n + k) (get_or ys k e)) → first_from marks n xs ≡ first_from others n ys
agree_from marks others n [] [] count each = refl
agree_from marks others n [] (y ∷ ys) count each = absurd (omega arith)
agree_from marks others n (x ∷ xs) [] count each = absurd (omega arith)
agree_from marks others n (x ∷ xs) (y ∷ ys) count each =
    let here : marks n x ≡ others n y = rw add-zero at (each 0 x y (omega arith)) in
    let rest = agree_from marks others (n + 1) xs ys (omega arith) (λ k d e h. let p : (n + 1) + k ≡ n + suc k = omega arith in rw p (each (suc k) d e (omega arith))) in
    rw (here, rest)

pub first_place-agree : {X Y : Type 0} (marks : ℕ → X → Bool) (others : ℕ → Y → Bool) (xs : List X) (ys : List Y) → length xs ≡ length ys
    → ((k : ℕ) (d : X) (e : Y) → k < length xs → marks k (get_or xs k d) ≡ others k (get_or ys k e)) → first_place marks xs ≡ first_place others ys
first_place-agree marks others xs ys count each =
    first_place-from marks xs ∙ agree_from marks others 0 xs ys count (λ k d e h. rw zero-add (each k d e h)) ∙ sym (first_place-from others ys)

-- the place itself where the entry is marked, and what is left where it isn't
pub step_marked : {X : Type 0} (marks : ℕ → X → Bool) (xs : List X) (k : ℕ) (d : X) → k < length xs → marks k (get_or xs k d) ≡ true
    → first_from marks k (drop k xs) ≡ Some k
step_marked marks xs k d h marked = rw (drop_more xs k d h, marked)

pub step_unmarked : {X : Type 0} (marks : ℕ → X → Bool) (xs : List X) (k : ℕ) (d : X) → k < length xs → marks k (get_or xs k d) ≡ false
    → first_from marks k (drop k xs) ≡ first_from marks (k + 1) (drop (k + 1) xs)
step_unmarked marks xs k d h unmarked = rw (drop_more xs k d h, unmarked)
