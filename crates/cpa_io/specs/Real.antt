-- The system's files, as contracts see them.
use Rattle.std.specs.Prelude.{ℕ, List}

-- how many loads failed, and the name of the last
pub record LoadFaults : Type 0 where
  pub faults : ℕ
  pub last_failed : List ℕ
