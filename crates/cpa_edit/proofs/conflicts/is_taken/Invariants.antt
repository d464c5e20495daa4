use Rattle.std.proofs.Common.{◌≡◌, false, take}
use Rattle.std.specs.List.{list_any}
use Rattle.cpa_units.specs.declared.places.TaskId.{TaskId}
use Rattle.cpa_edit.specs.Refused.{takes}
use Rattle.cpa_edit.proofs.conflicts.is_taken.Given as goal

abbrev pub invariant-loop-task : goal.invariant-loop-task
invariant-loop-task l = list_any (λ (t : TaskId). takes l.fn.system l.fn.number l.fn.but t.0) (take l.task-index l.task-items) ≡ false
