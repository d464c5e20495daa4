use Rattle.std.proofs.Common.{◌≡◌, ◌≤◌, ◌+◌, ◌*◌, take}
use Rattle.std.specs.List.{sum_by}
use Rattle.cpa_units.specs.declared.places.TaskId.{TaskId}
use Rattle.cpa_model.specs.SystemLists.{task_at, resource_at, slot_of, gap_of}
use Rattle.cpa_model.proofs.system.System.cycle.Given as goal

abbrev pub invariant-loop-task : goal.invariant-loop-task
invariant-loop-task l = record {
  sum : l.cycle ≡ sum_by (λ (t : TaskId). slot_of (task_at l.fn.self t.0).turn) (take l.task-index l.task-items) + gap_of (resource_at l.fn.self l.fn.res.0).kind;
  small : l.cycle ≤ 10000000 * l.task-index + 10000000;
}
