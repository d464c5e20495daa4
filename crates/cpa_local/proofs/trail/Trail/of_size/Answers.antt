use Rattle.std.proofs.Common.{◌≤◌, arith}
use Rattle.cpa_units.specs.Sizes.{most_tasks}
use Rattle.cpa_model.proofs.SizeLaws.{tasks-most}
use Rattle.cpa_local.proofs.trail.Trail.of_size.Goals as goal

pub overflow_cast-tasks : goal.overflow_cast-tasks
overflow_cast-tasks c = omega (arith, c.most_tasks-most.ensures, tasks-most c.args.size)

pub with_room-requires : goal.with_room-requires
with_room-requires c = omega (arith, c.most_tasks-most.ensures, tasks-most c.args.size)
