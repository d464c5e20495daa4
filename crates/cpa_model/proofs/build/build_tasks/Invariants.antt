use Rattle.std.proofs.Common.{◌≡◌, map, take}
use Rattle.cpa_model.specs.Built.{built_task}
use Rattle.cpa_model.proofs.build.build_tasks.Given as goal

abbrev pub invariant-loop-task : goal.invariant-loop-task
invariant-loop-task l = l.built.items ≡ map (built_task l.draft) (take l.task-index l.tasks)
