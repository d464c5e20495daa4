use Rattle.std.proofs.Common.{subst}
use Rattle.std.specs.Prelude.{IfOk}
use Rattle.cpa_workers.specs.Workers.{IsWork}
use Rattle.cpa_workers.proofs.side_by_side.+fn-work_together-join+arg2+fn-work_together-join+arg3+work_together.Goals as goal

pub merge-requires-clause-one : goal.merge-requires-clause-one
merge-requires-clause-one g t c =
    subst (λ o. IfOk o (λ h. IsWork c.args.job.now.system.now c.args.job.now.board.now c.args.job.now.dirty c.args.job.now.starts.now h.seat h.found h.trail)) c.in_ok-one.was c.join-one.ensures.first

pub merge-requires-clause-other : goal.merge-requires-clause-other
merge-requires-clause-other g t c =
    subst (λ o. IfOk o (λ h. IsWork c.args.job.now.system.now c.args.job.now.board.now c.args.job.now.dirty c.args.job.now.starts.now h.seat h.found h.trail)) c.in_ok-other.was c.join-one.ensures.second
