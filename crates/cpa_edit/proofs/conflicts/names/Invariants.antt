use Rattle.std.proofs.Common.{◌≡◌, false, take}
use Rattle.std.specs.Prelude.{◌==◌}
use Rattle.std.specs.List.{list_any}
use Rattle.cpa_units.specs.declared.places.TaskId.{TaskId}
use Rattle.cpa_edit.proofs.conflicts.names.Given as goal

abbrev pub invariant-loop-k : goal.invariant-loop-k
invariant-loop-k l = list_any (λ (j : TaskId). j.0 == l.task.0) (take l.k l.path.tasks) ≡ false
