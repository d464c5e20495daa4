use Rattle.cpa_depend.proofs.ConeLaws.{IsPass}
use Rattle.cpa_depend.proofs.cones.widened.Given as goal

abbrev pub invariant-loop-place : goal.invariant-loop-place
invariant-loop-place l = IsPass l.system l.fn.set l.wider l.grown l.place
