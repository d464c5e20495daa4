use Rattle.cpa_model.proofs.ChangedLaws.{exec-written, system-same}
use Rattle.std.proofs.Common.{refl}
use Rattle.cpa_model.proofs.ResourceTaskLaws.{task_lists-written}
use Rattle.cpa_model.proofs.system.System.set_exec.Goals as goal

pub invariant_of-self : goal.invariant_of-self
invariant_of-self c =
    let rules = rw (← c.self.view_is) at c.requires.rules in
    let there = rw (← c.self.view_is) at c.requires.there in (
      system-same _ _ (exec-written _ c.args.task.0 c.args.best c.args.worst c.index_mut-entry.result.now (rw (← c.self.view_is) at c.requires.there) c.index_mut-entry.ensures.value) rules,
      task_lists-written _ _ c.args.task.0 c.index_mut-entry.result.now _ _ there c.index_mut-entry.ensures.value refl c.self.invariant.1,
      c.self.invariant.2,
    )

pub returns : goal.returns
returns c =
    rw (← c.self.view_is)
    (exec-written _ c.args.task.0 c.args.best c.args.worst c.index_mut-entry.result.now (rw (← c.self.view_is) at c.requires.there) c.index_mut-entry.ensures.value)
