-- A chain of a file, as it is judged.
use Rattle.std.specs.Prelude.{ℕ, List, Option}
use Rattle.cpa_units.specs.declared.places.TaskId.{TaskId}

-- its name, its tasks, and the deadlines of its reaction time, its data age, and the time for which its data is held
pub record Chain : Type 0 where
  pub name : List ℕ
  pub tasks : List TaskId
  pub reaction : Option ℕ
  pub age : Option ℕ
  pub held : Option ℕ
