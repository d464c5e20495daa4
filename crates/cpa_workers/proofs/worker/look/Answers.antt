use Rattle.cpa_workers.proofs.FindingLaws.{looking-start, looking-more}
use Rattle.cpa_workers.proofs.worker.look.Goals as goal
use Rattle.cpa_workers.proofs.worker.look.Goals.{then-has+then-has-2, else-has}

pub loop-place-init : goal.loop-place-init
loop-place-init c =
    looking-start c.args.job.now.system.now _ c.args.job.now.dirty c.args.job.now.starts.now c.args.seat.now c.in_ok-x.x c.requires.vector c.requires.seated c.in_ok-x.ensures

pub loop-place-preserved : goal.loop-place-preserved
loop-place-preserved c =
    elim c.if-has.branch [
      | then-has+then-has-2 w ↦
          rw (w.seat-is, w.x-is)
          (looking-more c.args.job.now.system.now _ c.args.job.now.dirty c.args.job.now.starts.now _ c.loop-place.seat w.look_on.new.seat c.loop-place.x w.look_on.new.x w.look_on.ensures.seated w.look_on.ensures.grew w.look_on.ensures.look c.loop-place.invariant)
      | else-has w ↦ rw (w.seat-is, w.x-is) c.loop-place.invariant
    ]
