use Rattle.std.proofs.Common.{◌≤◌, ◌*◌, ◌+◌, ◌∙◌, length, ap, arith}
use Rattle.cpa_units.specs.Bounds.{sum_bounds}
use Rattle.cpa_model.specs.SystemLists.{is_on, tasks_on}
use Rattle.cpa_model.proofs.SystemLaws.{no_id}
use Rattle.cpa_model.proofs.ResourceTaskLaws.{task_list-few}
use Rattle.cpa_local.proofs.VectorLaws.{weaker_limit}
use Rattle.cpa_local.proofs.PathLaws.{plus-limit}
use Rattle.cpa_buffer.specs.Buffers.{buffer_of, buffer_on}
use Rattle.cpa_buffer.proofs.LoopLaws.{sum-next, taken-all}
use Rattle.cpa_buffer.proofs.buffers.buffer_on.Goals as goal

pub plus-sum-requires : goal.plus-sum-requires
plus-sum-requires c =
    let s = c.args.system.now in
    let k = c.loop-task.task-index in
    let few : length c.tasks_on-task-items.result.now ≤ length s.tasks = task_list-few (is_on s c.args.res.0) (length s.tasks) c.tasks_on-task-items.result.now c.tasks_on-task-items.ensures.places in
    weaker_limit (k * 274877906944 + 274877906944) 18446744073709551615 _ (omega (arith, few, c.loop-task-test.true, c.tasks_on-task-items.ensures.rules.few_tasks))
    (plus-limit (k * 274877906944) 274877906944 c.loop-task.sum c.buffer.result c.loop-task.invariant.few c.buffer.ensures.few)

pub loop-task-preserved : goal.loop-task-preserved
loop-task-preserved c =
    let k = c.loop-task.task-index in
    record {
      sum = sum-next c.tasks_on-task-items.result.now k no_id c.loop-task-test.true (buffer_of c.args.system.now c.args.x.now) c.loop-task.sum c.buffer.result c.plus-sum.result
          c.loop-task.invariant.sum c.buffer.ensures.value c.plus-sum.ensures;
      few = rw c.plus-sum.ensures
          (weaker_limit (k * 274877906944 + 274877906944) ((k + 1) * 274877906944) _ (omega arith) (plus-limit (k * 274877906944) 274877906944 c.loop-task.sum c.buffer.result c.loop-task.invariant.few c.buffer.ensures.few));
    }

pub returns : goal.returns
unfolding buffer_on
returns c =
    c.loop-task.invariant.sum
    ∙ ap (sum_bounds (buffer_of c.args.system.now c.args.x.now))
    (taken-all c.tasks_on-task-items.result.now (tasks_on c.args.system.now c.args.res.0) c.loop-task.task-index c.loop-task-test.false c.tasks_on-task-items.ensures.places)
