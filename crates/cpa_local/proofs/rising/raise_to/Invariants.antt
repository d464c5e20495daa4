use Rattle.cpa_local.proofs.RisingLaws.{IsRaisedTo}
use Rattle.cpa_local.proofs.rising.raise_to.Given as goal

abbrev pub invariant-loop-task : goal.invariant-loop-task
invariant-loop-task l = record {
  raised : IsRaisedTo l.system l.fn.res.0 l.task-items l.fn.x l.x l.task-index;
}
