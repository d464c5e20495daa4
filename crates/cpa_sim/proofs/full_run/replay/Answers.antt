use Rattle.std.proofs.Common.{◌∙◌, sym, subst}
use Rattle.cpa_sim.specs.Outcome.{IsOutcome}
use Rattle.cpa_sim.proofs.StartLaws.{can-run}
use Rattle.cpa_sim.proofs.EndLaws.{outcome-is}
use Rattle.cpa_sim.proofs.JobCount.{is-outcome}
use Rattle.cpa_sim.proofs.SimulatorLaws.{ended}
use Rattle.cpa_sim.proofs.full_run.replay.Goals as goal

pub returns-clause-run : goal.returns-clause-run
returns-clause-run c =
    let s = c.args.system.now in
    let tr = c.args.trace.now in
    let run = c.moments.run in
    let inv = c.moments.invariant in
    let end = ended s tr run.time (sym (c.goes_on.ensures s tr inv.run) ∙ c.moments-test.false) inv.within in
    c.seen.ensures ∙ outcome-is s tr (can-run s tr inv.run.rules inv.run.can) run.time run.keeps run.queues run.dispatches run.cursors inv.run.at inv.keeps end

pub returns-clause-seen : goal.returns-clause-seen
returns-clause-seen c =
    let s = c.args.system.now in
    let tr = c.args.trace.now in
    subst (IsOutcome s) (sym (returns-clause-run c)) (is-outcome s tr c.in_ok-run.ensures.run.rules c.requires)
