use Rattle.std.proofs.Common.{◌≡◌, ◌+◌, ◌++◌, length}
use Rattle.std.specs.Prelude.{vec_capacity}
use Rattle.std.specs.List.{range_with_len}
use Rattle.cpa_sim.specs.Run.{causes_by}
use Rattle.cpa_sim.specs.JobQueues.{arrivals_of, new_seen}
use Rattle.cpa_sim.proofs.job_queues.push_arrivals.Given as goal

abbrev pub invariant-loop : goal.invariant-loop
invariant-loop l = record {
  items : l.times.items ≡ l.fn.times.items ++ arrivals_of (new_seen l.now (causes_by l.fn.causes.by (range_with_len l.fn.causes.first l.counter)));
  many : length l.times.items ≡ length l.fn.times.items + l.counter;
  capacity : vec_capacity l.times ≡ vec_capacity l.fn.times;
}
