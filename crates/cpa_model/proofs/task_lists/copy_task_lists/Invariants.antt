use Rattle.std.proofs.Common.{◌≡◌, take}
use Rattle.cpa_model.proofs.task_lists.copy_task_lists.Given as goal

abbrev pub invariant-loop-list : goal.invariant-loop-list
invariant-loop-list l = l.copies.items ≡ take l.list-index l.task_lists
