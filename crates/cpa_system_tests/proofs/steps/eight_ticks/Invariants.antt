use Rattle.cpa_sched.specs.States.{seen, Belongs}
use Rattle.cpa_system_tests.proofs.steps.eight_ticks.Given as goal

abbrev pub invariant-loop-tick : goal.invariant-loop-tick
invariant-loop-tick l = Belongs l.system l.res.0 (seen l.state)
