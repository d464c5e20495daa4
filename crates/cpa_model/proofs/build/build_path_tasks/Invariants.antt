use Rattle.std.proofs.Common.{◌≡◌, map, take}
use Rattle.cpa_model.specs.Built.{task_named}
use Rattle.cpa_model.proofs.build.build_path_tasks.Given as goal

abbrev pub invariant-loop-name : goal.invariant-loop-name
invariant-loop-name l = l.built.items ≡ map (task_named l.draft) (take l.name-index l.names)
