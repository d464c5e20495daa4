use Rattle.cpa_local.proofs.RisingLaws.{IsMarkedTo}
use Rattle.cpa_local.proofs.trail.Trail.mark_all.Given as goal

abbrev pub invariant-loop-task : goal.invariant-loop-task
invariant-loop-task l = record {
  marked : IsMarkedTo l.system l.fn.res.0 l.task-items l.fn.self l.self l.task-index;
}
