use Rattle.std.proofs.Common.{take, cond, []}
use Rattle.cpa_sim.specs.JobQueues.{causes_of}
use Rattle.cpa_sim.specs.Arrivals.{is_among, AreGiven}
use Rattle.cpa_sim.proofs.arrivals.arrive_at_all.Given as goal

abbrev pub invariant-loop-task : goal.invariant-loop-task
invariant-loop-task l =
    AreGiven l.system l.places.items l.now (λ i. cond (is_among (take l.task-index l.tasks) i) (causes_of l.causes) []) l.initial.queues.items l.initial.dispatches.items l.queues.items l.dispatches.items
