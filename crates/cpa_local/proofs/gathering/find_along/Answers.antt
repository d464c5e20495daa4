use Rattle.std.proofs.Common.{◌∙◌, [], Some, sym, subst, ap, arith}
use Rattle.cpa_model.proofs.SystemLaws.{depth_of-most}
use Rattle.cpa_local.specs.Inputs.{joined, input}
use Rattle.cpa_local.specs.Gathered.{EndsThere}
use Rattle.cpa_local.proofs.GatherLaws.{found-first, later_of-none}
use Rattle.cpa_local.proofs.gathering.find_along.Goals as goal

pub walk-requires-clause-late : goal.walk-requires-clause-late
walk-requires-clause-late c = let deep = depth_of-most c.args.system.now c.args.task.0 in omega (arith, c.none.ensures.late)

pub returns-in-Sent : goal.returns-in-Sent
returns-in-Sent c =
    let end = subst (EndsThere c.args.system.now c.args.x.now c.args.task.0 c.none.result) c.in-Sent.is c.walk.ensures in
    ap Some c.set_one.ensures.value ∙ (sym (rw (c.none.ensures.late, c.none.ensures.least) at end.1) ∙ later_of-none (input c.args.system.now c.args.x.now c.args.task.0))

pub returns-in-Several : goal.returns-in-Several
returns-in-Several c =
    let s = c.args.system.now in
    let end = subst (EndsThere s c.args.x.now c.args.task.0 c.none.result) c.in-Several.is c.walk.ensures in
    let same = rw (c.none.ensures.late, c.none.ensures.least) at end.same in
    c.gather.ensures ∙ (sym (ap (joined (Some [])) same) ∙ found-first (input s c.args.x.now c.args.task.0))

pub returns-in-Unbounded : goal.returns-in-Unbounded
returns-in-Unbounded c =
    let end = subst (EndsThere c.args.system.now c.args.x.now c.args.task.0 c.none.result) c.in-Unbounded.is c.walk.ensures in
    sym (rw (c.none.ensures.late, c.none.ensures.least) at end) ∙ later_of-none (input c.args.system.now c.args.x.now c.args.task.0)
