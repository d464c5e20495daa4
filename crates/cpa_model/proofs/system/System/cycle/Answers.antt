use Rattle.std.proofs.Common.{◌≡◌, ◌≤◌, length, ap, ◌∙◌, arith}
use Rattle.cpa_units.specs.declared.places.TaskId.{TaskId}
use Rattle.cpa_draft.proofs.ListLaws.{get_or-any}
use Rattle.cpa_model.specs.declared.entries.Resource.{Resource}
use Rattle.cpa_model.specs.declared.entries.Task.{Task}
use Rattle.cpa_model.specs.Rules.{IsSystem}
use Rattle.cpa_model.specs.SystemLists.{resource_at, task_at, no_resource, is_on, slot_of, gap_of, tasks_on}
use Rattle.cpa_model.proofs.SystemLaws.{slot-small, gap-small}
use Rattle.cpa_model.proofs.ResourceTaskLaws.{task_list-few, slots-next, slots-all}
use Rattle.cpa_model.proofs.system.System.cycle.Goals as goal

pub loop-task-init : goal.loop-task-init
loop-task-init c =
    let rules : IsSystem c.args.self.now = rw (← c.self.view_is) c.self.invariant.0 in
    let is : c.index.result.now ≡ resource_at c.args.self.now c.args.res.0 =
    rw (← c.self.view_is) (c.index.ensures ∙ get_or-any c.self.inside.resources.items c.args.res.0 c.index.result.now no_resource (rw (← c.self.view_is) at c.requires)) in
    let gap = c.gap_of-cycle.ensures ∙ ap (λ (r : Resource). gap_of r.kind) is in
    let small = gap-small (resource_at c.args.self.now c.args.res.0).kind (rules.resources c.args.res.0 no_resource c.requires).kind_fits in
    record { sum = omega arith; small = omega arith }

pub overflow_add-cycle : goal.overflow_add-cycle
overflow_add-cycle c =
    let rules : IsSystem c.args.self.now = rw (← c.self.view_is) c.self.invariant.0 in
    let few : length c.tasks_on-task-items.result.now ≤ length c.args.self.now.tasks =
    task_list-few (is_on c.args.self.now c.args.res.0) (length c.args.self.now.tasks) c.tasks_on-task-items.result.now c.tasks_on-task-items.ensures.places in
    let small = slot-small _ c.task.result.now.turn c.task.ensures.rules.turn_fits in
    omega (arith, rules.few_tasks, c.loop-task.invariant.small, c.slot-cycle.ensures)

pub loop-task-preserved : goal.loop-task-preserved
loop-task-preserved c =
    let f = λ (t : TaskId). slot_of (task_at c.args.self.now t.0).turn in
    let slot = c.slot-cycle.ensures ∙ ap (λ (t : Task). slot_of t.turn) c.task.ensures.value in
    let small = slot-small _ c.task.result.now.turn c.task.ensures.rules.turn_fits in
    record {
      sum = slots-next f c.tasks_on-task-items.result.now c.loop-task.task-index c.loop-task.cycle c.slot-cycle.result (gap_of (resource_at c.args.self.now c.args.res.0).kind) (record { 0 = 0 }) c.loop-task-test.true c.loop-task.invariant.sum slot;
      small = omega (arith, c.loop-task.invariant.small, c.slot-cycle.ensures);
    }

pub returns : goal.returns
returns c =
    slots-all (λ i. slot_of (task_at c.args.self.now i).turn) c.tasks_on-task-items.result.now (tasks_on c.args.self.now c.args.res.0) c.loop-task.task-index c.loop-task.cycle
    (gap_of (resource_at c.args.self.now c.args.res.0).kind) c.loop-task-test.false c.tasks_on-task-items.ensures.places c.loop-task.invariant.sum
