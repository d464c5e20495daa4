use Rattle.std.proofs.Common.{◌≡◌, ◌++◌, map, take, drop}
use Rattle.cpa_model.specs.Changes.{id_without}
use Rattle.cpa_model.proofs.entries.close_up_ids.Given as goal

abbrev pub invariant-loop-task : goal.invariant-loop-task
invariant-loop-task l = l.tasks ≡ map (id_without l.removed.0) (take l.task-index l.initial.tasks) ++ drop l.task-index l.initial.tasks
