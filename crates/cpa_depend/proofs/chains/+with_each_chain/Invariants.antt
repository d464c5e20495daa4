use Rattle.cpa_model.specs.SystemLists.{depth_of}
use Rattle.cpa_depend.proofs.ChainLaws.{IsCollecting}
use Rattle.cpa_depend.proofs.chains.+with_each_chain.Given as goal

abbrev pub decreases-with_each_chain : goal.decreases-with_each_chain
decreases-with_each_chain l = depth_of l.system.now l.task.0

abbrev pub invariant-loop-after : goal.invariant-loop-after
invariant-loop-after l = IsCollecting l.system l.fn.task.0 l.fn.set l.all l.after-items l.after-index
