use Rattle.std.proofs.Common.{◌≡◌, replicate, []}
use Rattle.cpa_model.proofs.task_lists.empty_task_lists.Given as goal

abbrev pub invariant-loop : goal.invariant-loop
invariant-loop l = l.task_lists.items ≡ replicate l.counter []
