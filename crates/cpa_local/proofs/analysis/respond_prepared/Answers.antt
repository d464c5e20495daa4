use Rattle.std.proofs.Common.{◌≡◌, length, refl, arith}
use Rattle.cpa_model.specs.SystemLists.{is_on}
use Rattle.cpa_model.proofs.ResourceTaskLaws.{task_list-few}
use Rattle.cpa_local.proofs.analysis.respond_prepared.Goals as goal

pub make_rivals-requires : goal.make_rivals-requires
make_rivals-requires c =
    let few = task_list-few (is_on c.args.system.now c.task.result.now.res.0) (length c.args.system.now.tasks) c.tasks_on.result.now c.tasks_on.ensures.places in
    let same : length c.work.inside.inputs.items ≡ length c.args.work.now.inputs = rw (← c.work.view_is) refl in
    omega (arith, few, same, c.work.invariant, c.requires.room)
