use Rattle.std.proofs.Common.{◌∙◌, length, ap, arith}
use Rattle.std.specs.List.{flat_map}
use Rattle.cpa_model.specs.SystemLists.{tasks_on}
use Rattle.cpa_model.proofs.SystemLaws.{no_id}
use Rattle.cpa_sim.specs.Outcome.{OutcomeLists, jobs_seen}
use Rattle.cpa_buffer.specs.Peaks.{arrivals_of, ends_of}
use Rattle.cpa_buffer.proofs.LoopLaws.{flat-next, taken-all, resource-peak, if_ok}
use Rattle.cpa_buffer.proofs.PendingLaws.{outcome-long}
use Rattle.cpa_buffer.proofs.peaks.resource_peak.Goals as goal

pub collect-requires : goal.collect-requires
collect-requires c =
    let long = ap (λ (o : OutcomeLists). length o.jobs) c.requires.run.is in
    omega (arith, long, outcome-long c.args.system.now c.requires.run.trace, c.tasks_on-task-items.ensures.there c.loop-task.task-index no_id c.loop-task-test.true)

pub loop-task-preserved : goal.loop-task-preserved
loop-task-preserved c =
    let tasks = c.tasks_on-task-items.result.now in
    let k = c.loop-task.task-index in
    let o = c.args.outcome.now in
    record {
      arrivals = flat-next tasks k no_id c.loop-task-test.true (λ i. arrivals_of (jobs_seen o i)) c.loop-task.arrivals.items c.collect.new.arrivals.items c.loop-task.invariant.arrivals c.in_ok-collect.ensures.arrivals;
      ends = flat-next tasks k no_id c.loop-task-test.true (λ i. ends_of (jobs_seen o i)) c.loop-task.ends.items c.collect.new.ends.items c.loop-task.invariant.ends c.in_ok-collect.ensures.ends;
    }

pub returns : goal.returns
returns c =
    let s = c.args.system.now in
    let js = tasks_on s c.args.res.0 in
    let o = c.args.outcome.now in
    let all = taken-all c.tasks_on-task-items.result.now js c.loop-task.task-index c.loop-task-test.false c.tasks_on-task-items.ensures.places in
    let arrivals = c.loop-task.invariant.arrivals ∙ ap (flat_map (λ i. arrivals_of (jobs_seen o i))) all in
    let ends = c.loop-task.invariant.ends ∙ ap (flat_map (λ i. ends_of (jobs_seen o i))) all in
    if_ok _ _ c.most_inside.result
    (λ peak most tr is.
    resource-peak s tr c.args.res.0 peak c.loop-task.arrivals.items c.loop-task.ends.items
    (arrivals ∙ ap (λ (p : OutcomeLists). flat_map (λ i. arrivals_of (jobs_seen p i)) js) is)
    (ends ∙ ap (λ (p : OutcomeLists). flat_map (λ i. ends_of (jobs_seen p i)) js) is)
    most)
    c.most_inside.ensures
