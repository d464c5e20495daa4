use Rattle.cpa_depend.proofs.ChainLaws.{read-start, read-more, read-all}
use Rattle.cpa_depend.proofs.chains.reads.Goals as goal

pub loop-task-init : goal.loop-task-init
loop-task-init c = read-start c.args.system.now c.args.res.0 c.tasks_on-tasks.result.now c.none.result c.with-set.result c.none.ensures c.with-set.ensures

pub loop-task-preserved : goal.loop-task-preserved
loop-task-preserved c =
    read-more c.args.system.now c.args.res.0 c.tasks_on-tasks.result.now c.loop-task.set c.with_earlier-set.result c.loop-task.task-index c.tasks_on-tasks.ensures.places c.loop-task-test.true
    c.with_earlier-set.ensures c.loop-task.invariant

pub returns : goal.returns
returns c = read-all c.args.system.now c.args.res.0 c.tasks_on-tasks.result.now c.loop-task.set c.loop-task.task-index c.tasks_on-tasks.ensures.places c.loop-task-test.false c.loop-task.invariant
