use Rattle.std.proofs.Common.{◌<◌, arith}
use Rattle.std.proofs.lemmas.Bool.{ltb-true}
use Rattle.cpa_sim.proofs.job_queues.JobQueue.after_first.Goals as goal

pub overflow_add-result : goal.overflow_add-result
overflow_add-result c =
    let pending = rw (← c.self.view_is) at c.requires in
    let less : c.self.inside.done < c.self.inside.count = ltb-true c.self.inside.done c.self.inside.count pending in
    omega (arith, less, c.self.invariant.few, c.self.invariant.room)
