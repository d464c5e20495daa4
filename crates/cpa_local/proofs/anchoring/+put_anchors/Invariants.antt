use Rattle.std.proofs.Common.{take}
use Rattle.cpa_model.specs.SystemLists.{depth_of}
use Rattle.cpa_local.proofs.AnchorLists.{ArePut}
use Rattle.cpa_local.proofs.anchoring.+put_anchors.Given as goal

abbrev pub decreases-put_anchors : goal.decreases-put_anchors
decreases-put_anchors l = depth_of l.system.now l.task.0

abbrev pub invariant-loop-after : goal.invariant-loop-after
invariant-loop-after l = ArePut l.system l.late l.fn.found (take l.after-index l.after-items) l.found
