-- What is written of an order.
use Rattle.std.specs.Prelude.{ℕ, ◌++◌, Option, Some, None, List, length, codes}
use Rattle.std.specs.List.{flat_map}
use Rattle.std.specs.Fmt.{decimal}
use Rattle.cpa_units.specs.declared.places.TaskId.{TaskId}
use Rattle.cpa_model.specs.SystemLists.{SystemLists, task_at, resource_at, priority_of, places_of}
use Rattle.cpa_assign.specs.Orders.{with_order}

-- the priority number that a task has under an order
abbrev pub new_priority : SystemLists → ℕ → List ℕ → ℕ → ℕ
new_priority s r o i = priority_of (task_at (with_order s r o) i).turn

-- the line of a task with this priority number
unfoldable pub priority_line : SystemLists → ℕ → ℕ → List ℕ
priority_line s i number = codes "priority " ++ (task_at s i).name ++ codes " " ++ decimal number ++ codes "\n"

-- a line for each task of an order, highest first
abbrev pub priority_lines : SystemLists → ℕ → List ℕ → List ℕ
priority_lines s r o = flat_map (λ i. priority_line s i (new_priority s r o i)) o

-- the line of a resource whose tasks, so many, have an order
unfoldable pub assigned_line : SystemLists → ℕ → ℕ → List ℕ
assigned_line s r tasks = codes "assigned " ++ (resource_at s r).name ++ codes " tasks " ++ decimal tasks ++ codes "\n"

-- the line of a resource for which no order meets
unfoldable pub none_line : SystemLists → ℕ → List ℕ
none_line s r = codes "none " ++ (resource_at s r).name ++ codes "\n"

-- what is written of an order, or of its absence
abbrev pub assign_text : SystemLists → ℕ → Option (List TaskId) → List ℕ
assign_text s r (Some order) = priority_lines s r (places_of order) ++ assigned_line s r (length order)
assign_text s r None = none_line s r
