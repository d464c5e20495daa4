use Rattle.std.proofs.Common.{◌≡◌, false, take}
use Rattle.std.specs.List.{list_any}
use Rattle.cpa_model.specs.SystemLists.{is_task}
use Rattle.cpa_model.proofs.activators.Activators.has_task.Given as goal

abbrev pub invariant-loop-after : goal.invariant-loop-after
invariant-loop-after l = list_any (is_task l.task.0) (take l.after-index l.after-items) ≡ false
