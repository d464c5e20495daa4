use Rattle.std.proofs.Common.{◌∙◌}
use Rattle.cpa_workers.proofs.FindingLaws.{work-start}
use Rattle.cpa_workers.proofs.worker.work.Goals as goal

pub claims-init : goal.claims-init
claims-init g c =
    work-start c.args.job.now.system.now c.args.job.now.board.now c.args.job.now.dirty c.args.job.now.starts.now c.args.seat c.in_ok-found.found c.in_ok-trail.trail
    c.requires.seated c.in_ok-found.ensures.value (c.in_ok-trail.ensures.room ∙ c.tasks.ensures.count) c.in_ok-trail.ensures.none
