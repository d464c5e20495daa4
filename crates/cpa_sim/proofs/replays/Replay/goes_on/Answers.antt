use Rattle.std.proofs.Common.{◌∙◌, nat_lt, ap}
use Rattle.cpa_sim.specs.Outcome.{end_of}
use Rattle.cpa_sim.specs.Replays.{FollowedRun}
use Rattle.cpa_sim.proofs.replays.Replay.goes_on.Goals as goal

pub returns : goal.returns
returns c =
    c.goes_on.ensures c.self.inside.system.now c.self.inside.trace.now c.self.invariant.simulator
    ∙ ap (λ (p : FollowedRun). nat_lt p.time (end_of p.system p.trace)) c.self.view_is
