use Rattle.cpa_workers.proofs.FindingLaws.{work-joined}
use Rattle.cpa_workers.proofs.side_by_side.merge.Goals as goal

pub returns : goal.returns
returns c =
    work-joined c.args.job.now.system.now c.args.job.now.board.now c.args.job.now.dirty c.args.job.now.starts.now c.args.one.seat c.args.other.seat c.join.new.self c.args.one.found c.args.other.found c.take_over.new.self
    c.args.one.trail c.args.other.trail c.join-2.new.self c.join.ensures c.take_over.ensures.long c.take_over.ensures.taken c.take_over.ensures.same
    c.join-2.ensures.kept c.join-2.ensures.fresh c.join-2.ensures.marked c.requires.one c.requires.other
