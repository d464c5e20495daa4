use Rattle.std.proofs.Common.{length}
use Rattle.cpa_model.specs.ResourceTasks.{AreTasksByResource}
use Rattle.cpa_model.proofs.task_lists.gather.Given as goal

abbrev pub invariant-loop-k : goal.invariant-loop-k
invariant-loop-k l = AreTasksByResource (length l.resources) l.tasks l.k l.task_lists.items
