use Rattle.cpa_workers.proofs.SeatLaws.{IsTold}
use Rattle.cpa_workers.proofs.worker.announce.Given as goal

abbrev pub invariant-loop-task : goal.invariant-loop-task
invariant-loop-task l = IsTold l.job.system.now l.job.board.now l.job.starts.now l.x l.task-items l.initial.seat.seen l.seat l.task-index
