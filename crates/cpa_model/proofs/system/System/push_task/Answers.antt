use Rattle.std.proofs.Common.{◌++◌, ◌∷◌, [], refl, ap, ◌∙◌, arith}
use Rattle.std.proofs.lemmas.Result.{IfOk-from_err}
use Rattle.cpa_model.specs.Changes.{with_task}
use Rattle.cpa_model.proofs.ResourceTaskLaws.{task_lists-push, task_lists-by}
use Rattle.cpa_model.proofs.ChangedLaws.{pushed-placed}
use Rattle.cpa_model.proofs.system.System.push_task.Goals as goal

pub list_task-requires : goal.list_task-requires
list_task-requires c =
    let less = pushed-placed c.self.inside.size c.self.inside.resources.items c.self.inside.sources.items c.self.inside.tasks.items c.self.inside.paths.items c.args.task (rw (← c.self.view_is) at c.requires.rules) in
    omega (arith, less, c.self.invariant.1.long)

pub invariant_of-self-2 : goal.invariant_of-self-2
unfolding with_task
invariant_of-self-2 c =
    let less = pushed-placed c.self.inside.size c.self.inside.resources.items c.self.inside.sources.items c.self.inside.tasks.items c.self.inside.paths.items c.args.task (rw (← c.self.view_is) at c.requires.rules) in
    let tasks = c.in_ok-push.ensures.items ∙ ap (λ ts. ts ++ c.args.task ∷ []) c.in_ok-reserve.ensures.items in (
      rw tasks (rw (← c.self.view_is) at c.requires.rules),
      task_lists-by _ _ _ _ _ tasks c.in_ok-list_task.ensures.ok (task_lists-push _ c.self.inside.tasks.items c.args.task _ c.self.inside.task_lists.items (omega arith) less c.self.invariant.1),
      c.self.invariant.2,
    )

pub returns-clause-ok : goal.returns-clause-ok
unfolding with_task
returns-clause-ok c = rw (← c.self.view_is, c.in_ok-push.ensures.items, c.in_ok-reserve.ensures.items) refl

pub returns-in_err-reserve-clause-ok : goal.returns-in_err-reserve-clause-ok
returns-in_err-reserve-clause-ok c = IfOk-from_err _ _ c.from_residual.ensures.0

pub returns-in_err-reserve-clause-place : goal.returns-in_err-reserve-clause-place
returns-in_err-reserve-clause-place c = IfOk-from_err _ _ c.from_residual.ensures.0

pub returns-in_err-list_task-clause-ok : goal.returns-in_err-list_task-clause-ok
returns-in_err-list_task-clause-ok c = IfOk-from_err _ _ c.from_residual-in_err-list_task.ensures.0

pub returns-in_err-list_task-clause-place : goal.returns-in_err-list_task-clause-place
returns-in_err-list_task-clause-place c = IfOk-from_err _ _ c.from_residual-in_err-list_task.ensures.0

pub returns-in_err-push-clause-ok : goal.returns-in_err-push-clause-ok
returns-in_err-push-clause-ok c = IfOk-from_err _ _ c.from_residual-in_err-push.ensures.0

pub returns-in_err-push-clause-place : goal.returns-in_err-push-clause-place
returns-in_err-push-clause-place c = IfOk-from_err _ _ c.from_residual-in_err-push.ensures.0

pub invariant_of-self : goal.invariant_of-self
invariant_of-self c = rw c.in_err-reserve.ensures.items c.self.invariant

pub invariant_of-self-in_err-list_task : goal.invariant_of-self-in_err-list_task
invariant_of-self-in_err-list_task c = rw (c.in_ok-reserve.ensures.items, c.in_err-list_task.ensures.err) c.self.invariant
