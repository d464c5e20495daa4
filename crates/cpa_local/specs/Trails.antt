-- The marks of a trail, and what a call may do to them.
use Rattle.std.specs.Prelude.{ℕ, ◌≡◌, ◌≤◌, ◌⊎◌, Bool, true, false, List, slice_index_or}

-- what contracts see of a trail: a mark for each task that was analysed, and for how many tasks it has room
pub record Marks : Type 0 where
  pub marks : List Bool
  pub room : ℕ

-- the task has a mark
abbrev pub IsMarked : Marks → ℕ → Type 0
IsMarked trail i = slice_index_or trail.marks i false ≡ true

-- no mark is taken away, and the room isn't lowered
pub record IsKept (old new : Marks) : Type 0 where
  pub marks : (i : ℕ) → IsMarked old i → IsMarked new i
  pub room : old.room ≤ new.room

-- every mark that is new is of a task that `which` says
abbrev pub NewMarksAre : Marks → Marks → (ℕ → Type 0) → Type 0
NewMarksAre old new which = (i : ℕ) → IsMarked new i → IsMarked old i ⊎ which i

-- every task that `which` says is marked
abbrev pub AreMarked : Marks → (ℕ → Type 0) → Type 0
AreMarked new which = (i : ℕ) → which i → IsMarked new i
