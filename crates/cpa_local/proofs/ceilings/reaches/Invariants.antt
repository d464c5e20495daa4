use Rattle.std.proofs.Common.{◌≡◌, false, take}
use Rattle.std.specs.List.{list_any}
use Rattle.cpa_model.specs.SystemLists.{places_of}
use Rattle.cpa_local.proofs.CeilingLaws.{is_user}
use Rattle.cpa_local.proofs.ceilings.reaches.Given as goal

abbrev pub invariant-loop-task : goal.invariant-loop-task
invariant-loop-task l = list_any (is_user l.system l.fn.priority l.lock) (places_of (take l.task-index l.task-items)) ≡ false
