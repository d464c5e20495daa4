use Rattle.std.proofs.Common.{◌≡◌, ◌≤◌, ◌*◌, take}
use Rattle.std.specs.List.{sum_by}
use Rattle.cpa_units.specs.declared.limits.TheConstants.{MAX_EXECUTION}
use Rattle.cpa_units.specs.declared.places.TaskId.{TaskId}
use Rattle.cpa_model.specs.SystemLists.{task_at}
use Rattle.cpa_local.proofs.paths.sum_best.Given as goal

abbrev pub invariant-loop-k : goal.invariant-loop-k
invariant-loop-k l = record {
  sum : l.sum ≡ sum_by (λ (i : TaskId). (task_at l.system i.0).best) (take l.k l.tasks);
  small : l.sum ≤ l.k * MAX_EXECUTION;
}
