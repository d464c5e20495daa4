use Rattle.std.proofs.Common.{◌≡◌, take}
use Rattle.cpa_units.specs.declared.limits.TheConstants.{MAX_PRIORITY}
use Rattle.cpa_model.specs.SystemLists.{places_of}
use Rattle.cpa_model.proofs.LockLaws.{ceiling_among}
use Rattle.cpa_model.proofs.system.System.ceiling.Given as goal

abbrev pub invariant-loop-task : goal.invariant-loop-task
invariant-loop-task l = l.least ≡ ceiling_among l.fn.self l.lock MAX_PRIORITY (places_of (take l.task-index l.task-items))
