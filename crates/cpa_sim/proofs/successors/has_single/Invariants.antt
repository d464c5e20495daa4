use Rattle.std.proofs.Common.{ℕ, ◌<◌, ◌≤◌, length}
use Rattle.cpa_model.specs.SystemLists.{task_at}
use Rattle.cpa_sim.proofs.successors.has_single.Given as goal

abbrev pub invariant-loop-k : goal.invariant-loop-k
invariant-loop-k l = (i : ℕ) → i < l.k → length (task_at l.system i).after ≤ 1
