use Rattle.std.proofs.Common.{replicate, [], ap, ◌∙◌, arith}
use Rattle.std.proofs.lemmas.List.{replicate_more}
use Rattle.std.proofs.lemmas.Result.{IfOk-from_err}
use Rattle.cpa_model.proofs.task_lists.empty_task_lists.Goals as goal

pub loop-init : goal.loop-init
loop-init c = c.new-task_lists.ensures.items

pub returns-in_err-push : goal.returns-in_err-push
returns-in_err-push c = IfOk-from_err _ _ c.from_residual.ensures.0

pub loop-preserved : goal.loop-preserved
loop-preserved c = rw (c.in_ok-push.ensures.items, c.loop.invariant, c.empty.ensures) (replicate_more c.loop.counter [])

pub returns : goal.returns
returns c = c.loop.invariant ∙ ap (λ n. replicate n []) (omega arith)
