-- How the next task on a ring is found in one scan of the resource's tasks.
use Rattle.std.specs.Prelude.{ℕ, ◌++◌, nat_lt, not, List, filter}

-- a list with the places after h before those up to h
abbrev pub turned : ℕ → List ℕ → List ℕ
turned h js = filter (nat_lt h) js ++ filter (λ j. not (nat_lt h j)) js
