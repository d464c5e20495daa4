use Rattle.std.proofs.Common.{◌≡◌, ◌++◌}
use Rattle.std.specs.List.{range_with_len}
use Rattle.cpa_sim.specs.Run.{causes_by}
use Rattle.cpa_sim.specs.JobQueues.{new_seen}
use Rattle.cpa_sim.proofs.job_queues.push_jobs.Given as goal

abbrev pub invariant-loop-k : goal.invariant-loop-k
invariant-loop-k l = l.jobs.items ≡ l.initial.jobs.items ++ new_seen l.now (causes_by l.causes.by (range_with_len l.causes.first l.k))
