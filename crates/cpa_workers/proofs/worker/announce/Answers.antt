use Rattle.std.proofs.Common.{get_or, arith}
use Rattle.cpa_local.proofs.SolutionLaws.{least_of-is_least}
use Rattle.cpa_model.proofs.SystemLaws.{no_id}
use Rattle.cpa_workers.proofs.SeatLaws.{seated-range, seated-cap, told-more, told-whole}
use Rattle.cpa_workers.proofs.worker.announce.Goals as goal

pub raise-requires-clause-word : goal.raise-requires-clause-word
raise-requires-clause-word c =
    let s = c.args.job.now.system.now in
    let range = seated-range s _ _ c.loop-task.seat (least_of-is_least s c.tasks_on-task-items.ensures.rules).vector c.loop-task.invariant.seated in
    let there = c.tasks_on-task-items.ensures.there c.loop-task.task-index no_id c.loop-task-test.true in
    omega (arith, range, there)

pub raise-requires-clause-cap : goal.raise-requires-clause-cap
raise-requires-clause-cap c =
    let s = c.args.job.now.system.now in
    let place = (get_or c.tasks_on-task-items.result.now c.loop-task.task-index no_id).0 in
    let there = c.tasks_on-task-items.ensures.there c.loop-task.task-index no_id c.loop-task-test.true in
    rw (c.word.ensures, c.get.ensures)
    (seated-cap s _ _ c.loop-task.seat place _ (c.requires.vector.high place there) (c.requires.below place) c.loop-task.invariant.seated)

pub loop-task-preserved : goal.loop-task-preserved
loop-task-preserved c =
    let s = c.args.job.now.system.now in
    let there = c.tasks_on-task-items.ensures.there c.loop-task.task-index no_id c.loop-task-test.true in
    let least = (least_of-is_least s c.tasks_on-task-items.ensures.rules).vector in
    let seen = c.raise.ensures.seen in
    told-more s _ _ c.args.x.now c.tasks_on-task-items.result.now _ c.loop-task.seat c.raise.new.self c.loop-task.task-index seen.0 least c.requires.vector there
    (rw (← c.get.ensures, ← c.word.ensures) seen.1) seen.2 seen.3 c.loop-task.invariant

pub returns-clause-told : goal.returns-clause-told
returns-clause-told c =
    told-whole c.args.job.now.system.now _ _ c.args.x.now c.args.res.0 c.tasks_on-task-items.result.now _ c.loop-task.seat c.loop-task.task-index
    c.tasks_on-task-items.ensures.places c.loop-task-test.false c.loop-task.invariant
