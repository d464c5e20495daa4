use Rattle.cpa_workers.proofs.FindingLaws.{IsLooking}
use Rattle.cpa_workers.proofs.worker.look_on.Given as goal

abbrev pub invariant-loop-task : goal.invariant-loop-task
invariant-loop-task l = IsLooking l.job.system.now l.job.board.now l.job.dirty l.job.starts.now l.initial.seat.seen l.seat l.x
