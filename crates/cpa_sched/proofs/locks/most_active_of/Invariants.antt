use Rattle.std.proofs.Common.{◌≡◌, filter, take, option_map}
use Rattle.std.specs.Option.{ForSome}
use Rattle.cpa_model.specs.SystemLists.{places_of}
use Rattle.cpa_sched.specs.Least.{least_by}
use Rattle.cpa_sched.specs.Locks.{urgency_of}
use Rattle.cpa_sched.specs.declared.locks.Candidate.{Candidate}
use Rattle.cpa_sched.proofs.locks.most_active_of.Given as goal

abbrev pub invariant-loop-task : goal.invariant-loop-task
invariant-loop-task g l = record {
  found : option_map (λ (x : Candidate). x.task.0) l.first ≡ least_by (urgency_of l.system (g.Q.Queue.ready l.queue).received) (filter (g.Q.Queue.ready l.queue).waits (places_of (take l.task-index l.tasks)));
  urgency : ForSome l.first (λ (x : Candidate). urgency_of l.system (g.Q.Queue.ready l.queue).received x.task.0 ≡ x.urgency);
}
