-- The first entry of a list that a test marks.
use Rattle.std.specs.Prelude.{ℕ, Bool, List, ◌++◌, Option, map, take, position}
use Rattle.std.specs.List.{list_any, enumerate_from}
use Rattle.std.specs.Str.{bytes_eq}

-- The place of the first entry that the test marks. The test sees the entry's place, from 0, and the entry.
abbrev pub first_place : {X : Type 0} → (ℕ → X → Bool) → List X → Option ℕ
first_place marks xs = position (λ e. marks e.0 e.1) (enumerate_from 0 xs)

-- the place of the first entry whose name is one of those before the list, or that of an earlier entry
unfoldable pub first_known : {X : Type 0} → (X → List ℕ) → List (List ℕ) → List X → Option ℕ
first_known name before xs = first_place (λ k x. list_any (bytes_eq (name x)) (before ++ take k (map name xs))) xs
