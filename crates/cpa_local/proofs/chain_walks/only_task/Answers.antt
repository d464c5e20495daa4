use Rattle.std.proofs.Common.{Some, ap, ◌∙◌, arith}
use Rattle.cpa_local.proofs.OnlyTask.{only_task-is}
use Rattle.cpa_local.proofs.chain_walks.only_task.Goals as goal

pub returns-in-Task : goal.returns-in-Task
returns-in-Task c j = only_task-is c.args.after.now c.in-Task.earlier j (omega (arith, c.len.ensures.value)) (c.get.ensures ∙ ap Some c.in-Task.is)
