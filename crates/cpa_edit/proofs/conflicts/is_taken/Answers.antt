use Rattle.std.proofs.Common.{sym, ◌∙◌}
use Rattle.cpa_units.specs.declared.places.TaskId.{TaskId}
use Rattle.cpa_model.specs.SystemLists.{tasks_on}
use Rattle.cpa_edit.specs.Refused.{takes}
use Rattle.cpa_edit.proofs.AnyLaws.{one-at, none-more, none-all, any-by_place}
use Rattle.cpa_edit.proofs.conflicts.is_taken.Goals as goal

pub returns-then-takes : goal.returns-then-takes
returns-then-takes c =
    one-at (λ (t : TaskId). takes c.args.system.now c.args.number c.args.but t.0) c.tasks_on-task-items.result.now c.loop-task.task-index (record { 0 = 0 }) c.loop-task-test.true (sym c.takes.ensures ∙ c.if-takes.true)
    ∙ any-by_place (takes c.args.system.now c.args.number c.args.but) c.tasks_on-task-items.result.now (tasks_on c.args.system.now c.args.res.0) c.tasks_on-task-items.ensures.places

pub loop-task-preserved : goal.loop-task-preserved
loop-task-preserved c =
    none-more (λ (t : TaskId). takes c.args.system.now c.args.number c.args.but t.0) c.tasks_on-task-items.result.now c.loop-task.task-index (record { 0 = 0 }) c.loop-task-test.true c.loop-task.invariant (sym c.takes.ensures ∙ c.if-takes.false)

pub returns : goal.returns
returns c =
    none-all (λ (t : TaskId). takes c.args.system.now c.args.number c.args.but t.0) c.tasks_on-task-items.result.now c.loop-task.task-index c.loop-task-test.false c.loop-task.invariant
    ∙ any-by_place (takes c.args.system.now c.args.number c.args.but) c.tasks_on-task-items.result.now (tasks_on c.args.system.now c.args.res.0) c.tasks_on-task-items.ensures.places
