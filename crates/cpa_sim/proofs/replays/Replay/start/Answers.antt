use Rattle.std.proofs.Common.{arith}
use Rattle.cpa_sim.proofs.replays.Replay.start.Goals as goal

pub invariant_of-result : goal.invariant_of-result
invariant_of-result c = record {
  simulator = c.in_ok-simulator.ensures.run;
  keeps = c.in_ok-simulator.ensures.keeps;
  ran = λ r u less from before. absurd (omega (arith, before, c.in_ok-simulator.ensures.time));
}
