use Rattle.std.proofs.Common.{◌≡◌}
use Rattle.cpa_model.specs.SystemLists.{depth_of, task_at}
use Rattle.cpa_local.specs.Gathered.{IsOnWay}
use Rattle.cpa_local.proofs.chain_walks.walk.Given as goal

abbrev pub invariant-steps : goal.invariant-steps
invariant-steps l = record {
  way : IsOnWay l.system l.x l.fn.task.0 l.fn.way.late l.fn.way.least l.at.0 l.back.late l.back.least;
  entry : l.entry ≡ task_at l.system l.at.0;
}

abbrev pub decreases-steps : goal.decreases-steps
decreases-steps l = depth_of l.system l.at.0
