use Rattle.std.proofs.Common.{◌≡◌, ◌++◌, map, take, drop}
use Rattle.cpa_model.specs.Changes.{ids_without}
use Rattle.cpa_model.proofs.task_lists.take_out.Given as goal

abbrev pub invariant-loop-list : goal.invariant-loop-list
invariant-loop-list l = l.task_lists ≡ map (ids_without l.removed.0) (take l.list-index l.initial.task_lists) ++ drop l.list-index l.initial.task_lists
