use Rattle.std.proofs.Common.{◌≡◌, ◌<◌, ◌≤◌, ◌∙◌, ℕ, length, sym, subst, arith}
use Rattle.cpa_sim.specs.Served.{served_at}
use Rattle.cpa_sim.specs.Replays.{FollowedRun}
use Rattle.cpa_sim.proofs.replays.Replay.ran.Goals as goal

pub ran-requires-clause-there : goal.ran-requires-clause-there
ran-requires-clause-there c =
    let there : c.args.res.0 < length c.self.inside.system.now.resources = subst (λ (p : FollowedRun). c.args.res.0 < length p.system.resources) (sym c.self.view_is) c.requires in
    omega (arith, there, c.self.invariant.simulator.at.count_dispatches)

pub ran-requires-clause-within : goal.ran-requires-clause-within
ran-requires-clause-within c = c.self.invariant.simulator.ran

pub returns : goal.returns
returns c =
    let r = c.args.res.0 in
    let there : r < length c.self.inside.system.now.resources = subst (λ (p : FollowedRun). r < length p.system.resources) (sym c.self.view_is) c.requires in
    subst (λ (p : FollowedRun). (u : ℕ) → p.since ≤ u → u < p.time → served_at p.system p.trace u r ≡ c.ran.result) c.self.view_is
    (λ u from before. c.self.invariant.ran r u there from before ∙ sym c.ran.ensures)
