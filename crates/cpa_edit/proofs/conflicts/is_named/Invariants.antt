use Rattle.std.proofs.Common.{◌≡◌, false, take}
use Rattle.std.specs.Prelude.{◌==◌}
use Rattle.std.specs.List.{list_any}
use Rattle.cpa_units.specs.declared.places.TaskId.{TaskId}
use Rattle.cpa_model.specs.declared.entries.Path.{Path}
use Rattle.cpa_edit.proofs.conflicts.is_named.Given as goal

abbrev pub invariant-loop-place : goal.invariant-loop-place
invariant-loop-place l = list_any (λ (p : Path). list_any (λ (j : TaskId). j.0 == l.task.0) p.tasks) (take l.place l.system.paths) ≡ false
