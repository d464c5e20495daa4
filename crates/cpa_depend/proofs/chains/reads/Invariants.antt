use Rattle.cpa_depend.proofs.ChainLaws.{IsReadTo}
use Rattle.cpa_depend.proofs.chains.reads.Given as goal

abbrev pub invariant-loop-task : goal.invariant-loop-task
invariant-loop-task l = IsReadTo l.system l.fn.res.0 l.tasks l.set l.task-index
