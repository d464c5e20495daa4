use Rattle.std.proofs.Common.{◌≡◌, take, false}
use Rattle.std.specs.List.{list_any}
use Rattle.cpa_sim.specs.JobQueues.{has_pending}
use Rattle.cpa_sim.proofs.job_queues.someone_waits.Given as goal

abbrev pub invariant-loop-queue : goal.invariant-loop-queue
invariant-loop-queue l = list_any has_pending (take l.queue-index l.queues) ≡ false
