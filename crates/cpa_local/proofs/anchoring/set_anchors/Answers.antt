use Rattle.std.proofs.Common.{◌∙◌, ◌++◌, map, ap, arith}
use Rattle.cpa_model.proofs.SystemLaws.{depth_of-most}
use Rattle.cpa_local.specs.OnClocks.{later_anchor, anchor_list}
use Rattle.cpa_local.proofs.AnchorLists.{later-none}
use Rattle.cpa_local.proofs.anchoring.set_anchors.Goals as goal

pub put_anchors-requires-clause-late : goal.put_anchors-requires-clause-late
put_anchors-requires-clause-late c = let deep = depth_of-most c.args.system.now c.args.task.0 in omega arith

pub returns : goal.returns
returns c =
    let all = anchor_list c.args.system.now c.args.task.0 in
    c.put_anchors.ensures ∙ (ap (λ os. os ++ map (later_anchor 0) all) c.clear.ensures ∙ later-none all)
