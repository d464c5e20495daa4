use Rattle.std.proofs.Common.{sym, ◌∙◌}
use Rattle.cpa_model.proofs.SystemLaws.{no_id}
use Rattle.cpa_model.proofs.ResourceTaskLaws.{on-each}
use Rattle.cpa_local.proofs.RisingLaws.{raise-task, answered-whole, queue-kind}
use Rattle.cpa_local.proofs.rising.raise_all.Goals as goal

pub raise_queue-requires-clause-kind : goal.raise_queue-requires-clause-kind
raise_queue-requires-clause-kind c =
    rw (← c.resource.ensures.value) (queue-kind c.resource.result.now.kind (sym c.is_queue.ensures ∙ c.if-is_queue.true))

pub raise_task-requires-clause-on : goal.raise_task-requires-clause-on
raise_task-requires-clause-on c =
    on-each c.args.system.now c.args.res.0 c.tasks_on-task-items.result.now c.tasks_on-task-items.ensures.places c.loop-task.task-index no_id c.loop-task-test.true

pub loop-task-preserved : goal.loop-task-preserved
loop-task-preserved c =
    let s = c.args.system.now in
    let k = c.loop-task.task-index in
    record {
      raised = rw c.in_ok-raise_task.ensures.raised
          (raise-task s c.args.res.0 c.tasks_on-task-items.result.now c.args.x.now c.loop-task.x k
          c.tasks_on-task-items.ensures.rules c.tasks_on-task-items.ensures.places c.loop-task-test.true (c.tasks_on-task-items.ensures.there k no_id c.loop-task-test.true)
          c.loop-task.invariant.raised);
      prepared = c.in_ok-raise_task.ensures.prepared;
      room = c.in_ok-raise_task.ensures.room ∙ c.loop-task.invariant.room;
    }

pub returns-clause-answered : goal.returns-clause-answered
returns-clause-answered c =
    answered-whole c.args.system.now c.args.res.0 c.tasks_on-task-items.result.now c.args.x.now c.loop-task.x c.loop-task.task-index
    c.tasks_on-task-items.ensures.places c.loop-task-test.false c.loop-task.invariant.raised
