-- The task that alone activates another.
use Rattle.std.proofs.Common.{◌≡◌, length, slice_get, List, [], ◌∷◌, Option, Some, None, ap, arith}
use Rattle.std.specs.Prelude.{◌↔◌}
use Rattle.std.proofs.lemmas.Option.{none-some, same_Some}
use Rattle.cpa_units.specs.declared.places.TaskId.{TaskId}
use Rattle.cpa_model.specs.declared.entries.Activator.{Activator}
use Rattle.cpa_model.specs.declared.entries.Activator.TheVariants.{Source as FromSource, Task as FromTask}

-- the task at the head of a list
abbrev head_task : List Activator → Option TaskId
head_task [] = None
head_task (FromSource k ∷ others) = None
head_task (FromTask j ∷ others) = Some j

-- where a list has one activator, and that is a task
pub only_task-is : (after : List Activator) (i j : TaskId) → length after ≡ 1 → slice_get after 0 ≡ Some (FromTask i) → Some i ≡ Some j ↔ after ≡ FromTask j ∷ []
only_task-is [] i j one is = absurd (none-some (FromTask i) is)
only_task-is (a ∷ []) i j one is =
    rw (same_Some a (FromTask i) is)
    (λ e. ap (λ (k : TaskId). FromTask k ∷ []) (same_Some i j e), λ e. ap head_task e)
only_task-is (a ∷ b ∷ others) i j one is = absurd (let none : ⊥ = omega (arith, one) in none)
