-- What the changing calls make of a system's lists: each changes what it names, and nothing else.
use Rattle.std.specs.Prelude.{ℕ, ◌-◌, nat_lt, if◌then◌else◌, ◌==◌, not, List, [], ◌∷◌, ◌++◌, map, filter, slice_set, Option, option_map}
use Rattle.std.specs.List.{remove}
use Rattle.cpa_units.specs.declared.places.TaskId.{TaskId}
use Rattle.cpa_model.specs.declared.entries.OnClock.{OnClock}
use Rattle.cpa_model.specs.declared.entries.Task.{Task}
use Rattle.cpa_model.specs.declared.entries.Path.{Path}
use Rattle.cpa_model.specs.declared.entries.Turn.{Turn}
use Rattle.cpa_model.specs.declared.entries.Activator.{Activator}
use Rattle.cpa_model.specs.declared.entries.Activator.TheVariants as activator
use Rattle.cpa_model.specs.SystemLists.{SystemLists, source_at, task_at}

-- another task at a place
abbrev pub with_task_at : SystemLists → ℕ → Task → SystemLists
with_task_at s i t = record s { tasks = slice_set s.tasks i t }

-- task i has these executions
unfoldable pub with_exec : SystemLists → ℕ → ℕ → ℕ → SystemLists
with_exec s i best worst = with_task_at s i (record (task_at s i) { best = best; worst = worst })

-- task i has this priority or slot
unfoldable pub with_turn : SystemLists → ℕ → Turn → SystemLists
with_turn s i turn = with_task_at s i (record (task_at s i) { turn = turn })

-- tasks i and j have each other's priority or slot
unfoldable pub with_swapped : SystemLists → ℕ → ℕ → SystemLists
with_swapped s i j = with_turn (with_turn s i (task_at s j).turn) j (task_at s i).turn

-- source k has this event model
unfoldable pub with_source : SystemLists → ℕ → ℕ → ℕ → ℕ → SystemLists
with_source s k period jitter distance =
    record s { sources = slice_set s.sources k (record (source_at s k) { period = period; jitter = jitter; distance = distance }) }

abbrev pub at_offset : ℕ → Option OnClock → Option OnClock
at_offset offset on = option_map (λ (o : OnClock). record o { offset = offset }) on

-- source k, which is on a clock, has this offset
unfoldable pub with_offset : SystemLists → ℕ → ℕ → SystemLists
with_offset s k offset = record s { sources = slice_set s.sources k (record (source_at s k) { on_clock = at_offset offset (source_at s k).on_clock }) }

-- a task more, which is the last
unfoldable pub with_task : SystemLists → Task → SystemLists
with_task s t = record s { tasks = s.tasks ++ t ∷ [] }

-- the place of task j once task i is gone: later ones have moved up by one
abbrev pub place_without : ℕ → ℕ → ℕ
place_without i j = if nat_lt i j then j - 1 else j

abbrev pub id_without : ℕ → TaskId → TaskId
id_without i j = record { 0 = place_without i j.0 }

-- the tasks of a list without task i
abbrev pub ids_without : ℕ → List TaskId → List TaskId
ids_without i tasks = map (id_without i) (filter (λ (t : TaskId). not (t.0 == i)) tasks)

abbrev pub activator_without : ℕ → Activator → Activator
activator_without i (activator.Source k) = activator.Source k
activator_without i (activator.Task j) = activator.Task (id_without i j)

abbrev pub task_without : ℕ → Task → Task
task_without i t = record t { after = map (activator_without i) t.after }

abbrev pub path_without : ℕ → Path → Path
path_without i p = record p { tasks = map (id_without i) p.tasks }

-- task i is gone, and whoever names a later task names it by its new place
unfoldable pub without_task : SystemLists → ℕ → SystemLists
without_task s i = record s { tasks = map (task_without i) (remove s.tasks i); paths = map (path_without i) s.paths }
