use Rattle.std.proofs.Common.{arith}
use Rattle.cpa_sim.proofs.SimulatorLaws.{end-within}
use Rattle.cpa_segments.proofs.tracking.catch_up.Goals as goal

pub behind-smaller : goal.behind-smaller
behind-smaller c = omega (arith, end-within c.behind.tracker.replay.system c.behind.tracker.replay.trace)
