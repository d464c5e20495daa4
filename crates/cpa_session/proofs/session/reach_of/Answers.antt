use Rattle.std.proofs.Common.{length, sym, ap, ◌∙◌, arith}
use Rattle.cpa_session.proofs.EditedLaws.{touches-there, edit-spares}
use Rattle.cpa_session.proofs.session.reach_of.Goals as goal

pub cone_by-old_cone-requires-clause-from : goal.cone_by-old_cone-requires-clause-from
cone_by-old_cone-requires-clause-from c r on =
    touches-there c.args.old.now c.args.next.now c.args.edit.now r c.has_rules.ensures c.requires.edited (sym (c.requires.touched r) ∙ on)

pub cone_by-new_cone-requires-clause-from : goal.cone_by-new_cone-requires-clause-from
cone_by-new_cone-requires-clause-from c r on =
    let there = touches-there c.args.old.now c.args.next.now c.args.edit.now r c.has_rules.ensures c.requires.edited (sym (c.requires.touched r) ∙ on) in
    let spared = edit-spares c.args.old.now c.args.next.now c.args.edit.now c.args.touched c.has_rules.ensures c.requires.edited c.requires.touched in
    let same = ap length spared.resources in
    omega arith

pub returns : goal.returns
returns c =
    record {
      before = c.cone_by-old_cone.result;
      after = c.cone_by-new_cone.result;
      old_cone = c.cone_by-old_cone.ensures;
      new_cone = c.cone_by-new_cone.ensures;
      union = c.union.ensures;
    }
