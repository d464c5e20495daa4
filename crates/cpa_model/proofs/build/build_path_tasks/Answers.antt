use Rattle.std.proofs.Common.{arith}
use Rattle.cpa_model.proofs.build.build_path_tasks.Goals as goal

pub task_named-requires-clause-place : goal.task_named-requires-clause-place
task_named-requires-clause-place c = rw (c.bytes.ensures, c.name-item.is) (c.requires.places c.loop-name.name-index c.name-item.result (omega arith))
