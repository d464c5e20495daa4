use Rattle.std.proofs.Common.{◌<◌, length, get_or, arith}
use Rattle.std.proofs.lemmas.List.{get_or_default}
use Rattle.std.proofs.lemmas.List.Edits.{map_over_more}
use Rattle.cpa_model.specs.Changes.{path_without}
use Rattle.cpa_model.proofs.changes.close_up_paths.Goals as goal

pub loop-path-preserved : goal.loop-path-preserved
loop-path-preserved c =
    let within : c.loop-path.path-index < length c.loop-path.paths = omega arith in
    let x = get_or c.loop-path.paths c.loop-path.path-index c.path-item.result in
    rw (c.close_up.ensures)
    (map_over_more (path_without c.args.removed.0) c.args.paths.now c.loop-path.paths c.loop-path.path-index x (omega arith) c.loop-path.invariant
    (get_or_default c.loop-path.paths c.loop-path.path-index c.path-item.result x within))
