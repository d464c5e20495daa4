use Rattle.std.proofs.Common.{◌≤◌}
use Rattle.cpa_sched.specs.States.{seen, Belongs}
use Rattle.cpa_system_tests.proofs.steps.four_stretches.Given as goal

abbrev pub invariant-loop-k : goal.invariant-loop-k
invariant-loop-k l = record {
  belongs : Belongs l.system l.res.0 (seen l.state);
  early : l.tick ≤ 200;
}
