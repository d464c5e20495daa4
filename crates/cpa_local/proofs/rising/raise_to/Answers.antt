use Rattle.std.proofs.Common.{get_or}
use Rattle.cpa_model.proofs.SystemLaws.{no_id}
use Rattle.cpa_model.proofs.ResourceTaskLaws.{on-each}
use Rattle.cpa_units.proofs.BoundLaws.{IsNowhereAbove_refl}
use Rattle.cpa_local.proofs.RisingLaws.{raise-from, answered-whole}
use Rattle.cpa_local.proofs.rising.raise_to.Goals as goal

pub loop-task-preserved : goal.loop-task-preserved
loop-task-preserved c =
    let s = c.args.system.now in
    let k = c.loop-task.task-index in
    let tasks = c.tasks_on-task-items.result.now in
    let there = c.tasks_on-task-items.ensures.there k no_id c.loop-task-test.true in
    let on = on-each s c.args.res.0 tasks c.tasks_on-task-items.ensures.places k no_id c.loop-task-test.true in
    record {
      raised = rw (c.set.ensures, c.max-raised.ensures, c.get.ensures, c.requires.one (get_or tasks k no_id).0 there on)
          (raise-from s c.args.res.0 tasks c.args.x.now c.args.x.now c.loop-task.x k
          c.tasks_on-task-items.ensures.rules c.tasks_on-task-items.ensures.places c.loop-task-test.true there
          (IsNowhereAbove_refl c.args.x.now) c.requires.start.below c.loop-task.invariant.raised);
    }

pub returns-clause-answered : goal.returns-clause-answered
returns-clause-answered c =
    answered-whole c.args.system.now c.args.res.0 c.tasks_on-task-items.result.now c.args.x.now c.loop-task.x c.loop-task.task-index
    c.tasks_on-task-items.ensures.places c.loop-task-test.false c.loop-task.invariant.raised
