use Rattle.std.proofs.Common.{◌≡◌, ◌≤◌, ◌-◌, true}
use Rattle.cpa_units.specs.declared.limits.TheConstants.{HORIZON}
use Rattle.cpa_sim.specs.Outcome.{end_of}
use Rattle.cpa_sim.specs.Simulators.{IsSimulator}
use Rattle.cpa_sim.proofs.full_run.replay.Given as goal

abbrev pub invariant-moments : goal.invariant-moments
invariant-moments l = record {
  run : IsSimulator l.system l.trace l.run;
  keeps : l.run.keeps ≡ true;
  within : l.run.time ≤ end_of l.system l.trace;
}

abbrev pub decreases-moments : goal.decreases-moments
decreases-moments l = HORIZON - l.run.time
