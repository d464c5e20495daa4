use Rattle.cpa_fix.proofs.SolveLaws.{IsStalePart}
use Rattle.cpa_fix.proofs.solving.dirty_resources.Given as goal

abbrev pub invariant-loop-place : goal.invariant-loop-place
invariant-loop-place l = IsStalePart l.system l.readings l.x l.dirty l.found l.place
