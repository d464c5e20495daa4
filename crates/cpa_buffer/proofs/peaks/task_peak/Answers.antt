use Rattle.std.proofs.Common.{◌≡◌, length, arith, ap}
use Rattle.cpa_sim.specs.Outcome.{OutcomeLists, jobs_seen}
use Rattle.cpa_buffer.specs.Peaks.{arrivals_of, ends_of}
use Rattle.cpa_buffer.proofs.LoopLaws.{task-peak, if_ok}
use Rattle.cpa_buffer.proofs.PendingLaws.{outcome-long}
use Rattle.cpa_buffer.proofs.peaks.task_peak.Goals as goal

pub collect-requires : goal.collect-requires
collect-requires c =
    let long = ap (λ (o : OutcomeLists). length o.jobs) c.requires.run.is in
    omega (arith, long, outcome-long c.args.system.now c.requires.run.trace, c.requires.there)

pub returns : goal.returns
returns c =
    let s = c.args.system.now in
    let i = c.args.task.0 in
    if_ok _ _ c.most_inside.result
    (λ peak greatest tr is.
    let a : c.collect.new.arrivals.items ≡ arrivals_of (jobs_seen c.args.outcome.now i) = rw c.new-arrivals.ensures.items at c.in_ok-collect.ensures.arrivals in
    let e : c.collect.new.ends.items ≡ ends_of (jobs_seen c.args.outcome.now i) = rw c.new-ends.ensures.items at c.in_ok-collect.ensures.ends in
    task-peak s tr i peak c.collect.new.arrivals.items c.collect.new.ends.items c.requires.there (rw is at a) (rw is at e) greatest)
    c.most_inside.ensures
