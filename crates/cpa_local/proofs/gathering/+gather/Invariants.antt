use Rattle.std.proofs.Common.{◌≡◌, ◌<◌, false, drop}
use Rattle.cpa_model.specs.SystemLists.{depth_of}
use Rattle.cpa_local.proofs.GatherLaws.{IsGathering}
use Rattle.cpa_local.proofs.gathering.+gather.Given as goal

abbrev pub decreases-gather : goal.decreases-gather
decreases-gather l = depth_of l.system.now l.task.0

abbrev pub invariant-loop-after : goal.invariant-loop-after
invariant-loop-after l = record {
  gathered : IsGathering l.system l.x l.fn.task.0 l.way.late l.way.least l.none l.fn.found (drop l.after-index l.after-items) l.first l.found;
  begun : 0 < l.after-index → l.first ≡ false;
}
