use Rattle.std.proofs.Common.{◌<◌, ◌≤◌, ℕ, get_or}
use Rattle.cpa_model.proofs.SystemLaws.{no_id}
use Rattle.cpa_local.specs.Blocking.{blocking_between}
use Rattle.cpa_local.proofs.neighbours.longest_blocking.Given as goal

abbrev pub invariant-loop-task : goal.invariant-loop-task
invariant-loop-task l = record {
  most : (i k : ℕ) → k < l.task-index → blocking_between l.system l.fn.kind i (get_or l.task-items k no_id).0 ≤ l.longest;
}
