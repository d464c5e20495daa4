use Rattle.std.proofs.Common.{◌≡◌, ◌*◌, take}
use Rattle.cpa_units.specs.declared.limits.TheConstants.{MAX_LIMIT}
use Rattle.cpa_units.specs.declared.places.TaskId.{TaskId}
use Rattle.cpa_units.specs.Bounds.{RespectsLimit, bound_of, sum_bounds}
use Rattle.cpa_local.proofs.paths.sum_worst.Given as goal

abbrev pub invariant-loop-k : goal.invariant-loop-k
invariant-loop-k l = record {
  sum : l.sum ≡ sum_bounds (λ (i : TaskId). bound_of l.x i.0) (take l.k l.tasks);
  small : RespectsLimit (l.k * MAX_LIMIT) l.sum;
}
