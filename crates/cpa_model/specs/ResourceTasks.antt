-- The tasks of each resource, as a system keeps them beside its lists.
use Rattle.std.specs.Prelude.{ℕ, ◌≡◌, ◌==◌, ◌<◌, Bool, List, [], ◌∷◌, ◌++◌, length, filter, slice_index_or, slice_set}
use Rattle.std.specs.List.{range_with_len}
use Rattle.cpa_units.specs.declared.places.TaskId.{TaskId}
use Rattle.cpa_model.specs.declared.entries.Task.{Task}
use Rattle.cpa_model.specs.SystemLists.{no_task, places_of}

-- the tasks that are kept for a resource
abbrev pub listed_on : List (List TaskId) → ℕ → List TaskId
listed_on task_lists r = slice_index_or task_lists r []

-- the list of a resource with a task more, at its end
abbrev pub with_task_added : List (List TaskId) → ℕ → TaskId → List (List TaskId)
with_task_added task_lists r task = slice_set task_lists r (listed_on task_lists r ++ task ∷ [])

-- whether the task at a place of a list is on a resource
abbrev pub is_placed_on : List Task → ℕ → ℕ → Bool
is_placed_on tasks r i = (slice_index_or tasks i no_task).res.0 == r

-- each of so many resources has its tasks among the first `count`, in their order
pub record AreTasksByResource (resources : ℕ) (tasks : List Task) (count : ℕ) (task_lists : List (List TaskId)) : Type 0 where
  pub long : length task_lists ≡ resources
  pub each : (r : ℕ) → r < resources → places_of (listed_on task_lists r) ≡ filter (is_placed_on tasks r) (range_with_len 0 count)
