use Rattle.std.proofs.Common.{◌<◌, length, get_or, refl, arith}
use Rattle.cpa_model.proofs.SystemLaws.{no_id}
use Rattle.cpa_session.proofs.AnewLaws.{begun-more, begun-all}
use Rattle.cpa_session.proofs.keeping.begin_anew.Goals as goal

pub loop-task-init : goal.loop-task-init
loop-task-init c = record { long = refl; least = λ j none. absurd (omega arith); others = λ i off. refl }

pub loop-task-preserved : goal.loop-task-preserved
loop-task-preserved c =
    let ids = c.tasks_on-task-items.result.now in
    let k = c.loop-task.task-index in
    let there : (get_or ids k no_id).0 < length c.args.system.now.tasks = c.tasks_on-task-items.ensures.there k no_id c.loop-task-test.true in
    rw (c.set.ensures, c.task.ensures.value)
    (begun-more c.args.system.now c.args.res.0 ids c.args.y.now c.loop-task.y k c.tasks_on-task-items.ensures.places c.loop-task-test.true
    (omega (arith, there, c.requires.long, c.loop-task.invariant.long)) c.loop-task.invariant)

pub returns : goal.returns
returns c =
    begun-all c.args.system.now c.args.res.0 c.tasks_on-task-items.result.now c.args.y.now c.loop-task.y c.loop-task.task-index c.tasks_on-task-items.ensures.places (omega arith) c.loop-task.invariant
