use Rattle.std.proofs.Common.{map}
use Rattle.cpa_model.specs.SystemLists.{task_at}
use Rattle.cpa_sim.proofs.SuccessorLaws.{AreGrowing}
use Rattle.cpa_sim.proofs.successors.put_all.Given as goal

abbrev pub invariant-loop-after : goal.invariant-loop-after
invariant-loop-after l =
    AreGrowing l.system l.task (task_at l.system l.task.0).after l.after-index (map (λ v. v.items) l.successors.by_source.items) (map (λ v. v.items) l.successors.by_task.items)
