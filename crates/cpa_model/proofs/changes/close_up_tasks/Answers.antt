use Rattle.std.proofs.Common.{◌<◌, length, get_or, arith}
use Rattle.std.proofs.lemmas.List.{get_or_default}
use Rattle.std.proofs.lemmas.List.Edits.{map_over_more}
use Rattle.cpa_model.specs.Changes.{task_without}
use Rattle.cpa_model.proofs.changes.close_up_tasks.Goals as goal

pub loop-task-preserved : goal.loop-task-preserved
loop-task-preserved c =
    let within : c.loop-task.task-index < length c.loop-task.tasks = omega arith in
    let x = get_or c.loop-task.tasks c.loop-task.task-index c.task-item.result in
    rw (c.close_up.ensures)
    (map_over_more (task_without c.args.removed.0) c.args.tasks.now c.loop-task.tasks c.loop-task.task-index x (omega arith) c.loop-task.invariant
    (get_or_default c.loop-task.tasks c.loop-task.task-index c.task-item.result x within))
