use Rattle.std.proofs.Common.{◌≡◌, map, take}
use Rattle.cpa_draft.specs.Names.{link_of}
use Rattle.cpa_draft.proofs.tables.collect_activators.Given as goal

abbrev pub invariant-loop-task : goal.invariant-loop-task
invariant-loop-task l = l.activators.items ≡ map (λ t. map (link_of l.draft) t.after) (take l.task-index l.tasks)
