use Rattle.std.proofs.Common.{length}
use Rattle.cpa_depend.proofs.ConeLaws.{IsGrown, missing}
use Rattle.cpa_depend.proofs.cones.cone_by.Given as goal

abbrev pub invariant-passes : goal.invariant-passes
invariant-passes l = IsGrown l.system l.fn.from l.set

abbrev pub decreases-passes : goal.decreases-passes
decreases-passes l = missing l.set (length l.system.resources)
