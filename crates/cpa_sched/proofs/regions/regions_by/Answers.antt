use Rattle.std.proofs.Common.{◌∙◌, ◌<◌, None, option_map, length, filter, sym, ap}
use Rattle.cpa_model.specs.SystemLists.{place_of, tasks_on}
use Rattle.cpa_sched.specs.Steps.{Choice, most_urgent, preemptive_step}
use Rattle.cpa_sched.specs.States.{seen}
use Rattle.cpa_sched.proofs.RegionLaws.{ticks-within}
use Rattle.cpa_sched.proofs.StepLaws.{urgent-on}
use Rattle.cpa_sched.proofs.StretchLaws.{for-task}
use Rattle.cpa_sched.proofs.regions.regions_by.Goals as goal

pub returns-clause-step : goal.returns-clause-step
returns-clause-step g c =
    let s = c.args.system.now in
    let urgent = most_urgent s (filter (g.Q.Queue.ready c.args.queue.now).waits (tasks_on s c.args.ranking.now.res.0)) in
    c.finish_region.ensures.step s urgent ∙ ap (λ o. preemptive_step s (seen c.args.state.now) (option_map place_of o) urgent) (sym c.in-Some.is)

pub returns-clause-ticks : goal.returns-clause-ticks
returns-clause-ticks g c =
    let s = c.args.system.now in
    let is = ap (λ (x : Choice). x.task) (c.finish_region.ensures.step s None) in
    c.finish_region.ensures.ticks
    ∙ sym (ticks-within s c.args.ranking.now.res.0 (seen c.args.state.now) (option_map place_of c.finish_region.result.task) c.in-Some.task.0 c.args.most c.finish_region.new.state.left c.requires.kind c.requires.belongs (ap (option_map place_of) c.in-Some.is) is)

pub begin_region-requires-clause-there : goal.begin_region-requires-clause-there
begin_region-requires-clause-there g c =
    let s = c.args.system.now in
    let w = (g.Q.Queue.ready c.args.queue.now).waits in
    for-task (λ j. j < length s.tasks) c.first_waiting-urgent.result (λ j e. (urgent-on s c.args.ranking.now.res.0 w j (sym (c.first_waiting-urgent.ensures.first ∙ c.requires.ranking w) ∙ e)).on.task)
