use Rattle.cpa_model.specs.SystemLists.{depth_of}
use Rattle.cpa_depend.proofs.ChainLaws.{IsWalk}
use Rattle.cpa_depend.proofs.chains.with_earlier.Given as goal

abbrev pub invariant-steps : goal.invariant-steps
invariant-steps l = IsWalk l.system l.fn.task.0 l.fn.set l.all l.at.0

abbrev pub decreases-steps : goal.decreases-steps
decreases-steps l = depth_of l.system l.at.0
