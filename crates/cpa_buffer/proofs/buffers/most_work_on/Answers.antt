use Rattle.std.proofs.Common.{◌∙◌, ap}
use Rattle.cpa_model.specs.SystemLists.{tasks_on}
use Rattle.cpa_model.proofs.SystemLaws.{no_id}
use Rattle.cpa_buffer.specs.Work.{greatest_bound, most_work_on}
use Rattle.cpa_buffer.proofs.LoopLaws.{most-next, taken-all}
use Rattle.cpa_buffer.proofs.buffers.most_work_on.Goals as goal

pub loop-task-preserved : goal.loop-task-preserved
loop-task-preserved c =
    most-next c.tasks_on-task-items.result.now c.loop-task.task-index no_id c.loop-task-test.true c.args.x.now c.loop-task.most c.get.result c.max-most.result
    c.loop-task.invariant c.get.ensures c.max-most.ensures

pub returns : goal.returns
unfolding most_work_on
returns c =
    c.loop-task.invariant
    ∙ ap (greatest_bound c.args.x.now) (taken-all c.tasks_on-task-items.result.now (tasks_on c.args.system.now c.args.res.0) c.loop-task.task-index c.loop-task-test.false c.tasks_on-task-items.ensures.places)
