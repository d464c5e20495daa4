use Rattle.std.proofs.Common.{◌∙◌}
use Rattle.std.proofs.lemmas.Result.{IfOk-from_err}
use Rattle.cpa_model.proofs.task_lists.ResourceTasks.copy.Goals as goal

pub returns-in_err-tasks : goal.returns-in_err-tasks
returns-in_err-tasks c = IfOk-from_err _ _ c.from_residual.ensures.0

pub returns : goal.returns
returns c = c.in_ok-tasks.ensures.items ∙ c.as_slice.ensures.value ∙ c.self.view_is
