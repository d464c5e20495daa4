use Rattle.std.proofs.Common.{◌∙◌, ap, sym}
use Rattle.std.proofs.lemmas.List.Folds.{list_any_at}
use Rattle.cpa_sim.specs.JobQueues.{has_pending}
use Rattle.cpa_sim.proofs.simulation.has_more.Goals as goal

pub returns-in-Some : goal.returns-in-Some
returns-in-Some c = λ yes.
    let queue = c.index-queues-task.result in
    list_any_at has_pending c.args.queues.now c.in-Some.task.0 queue c.if-task-queues.true (ap has_pending (sym c.index-queues-task.is) ∙ (sym c.waits.ensures ∙ yes))
