use Rattle.std.proofs.Common.{◌<◌, length, get_or, arith}
use Rattle.std.proofs.lemmas.List.{get_or_default}
use Rattle.std.proofs.lemmas.List.Edits.{map_over_more}
use Rattle.cpa_model.specs.Changes.{ids_without}
use Rattle.cpa_model.proofs.task_lists.take_out.Goals as goal

pub loop-list-preserved : goal.loop-list-preserved
loop-list-preserved c =
    let within : c.loop-list.list-index < length c.loop-list.task_lists = omega arith in
    let x = get_or c.loop-list.task_lists c.loop-list.list-index c.list-item.result in
    rw (c.take_out.ensures)
    (map_over_more (ids_without c.args.removed.0) c.args.task_lists.now c.loop-list.task_lists c.loop-list.list-index x (omega arith) c.loop-list.invariant
    (get_or_default c.loop-list.task_lists c.loop-list.list-index c.list-item.result x within))
