use Rattle.cpa_rr.proofs.RoundRobinLaws.{round_robin_work-steady}
use Rattle.cpa_rr.proofs.RoundRobinJobsBusyWindow.constant_until.Goals as goal

pub returns : goal.returns
returns c =
    let b = c.args.self.now in
    round_robin_work-steady b.worst b.slot b.rivals.now c.args.jobs c.args.window c.shares_until.result (rw c.div_ceil-rounds.ensures at c.shares_until.ensures)
