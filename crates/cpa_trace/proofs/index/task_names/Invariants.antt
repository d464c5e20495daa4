use Rattle.std.proofs.Common.{◌≡◌, map, take}
use Rattle.cpa_model.specs.declared.entries.Task.{Task}
use Rattle.cpa_trace.proofs.index.task_names.Given as goal

abbrev pub invariant-loop-i : goal.invariant-loop-i
invariant-loop-i l = l.names ≡ take l.i (map (λ (r : Task). r.name) l.system.tasks)
