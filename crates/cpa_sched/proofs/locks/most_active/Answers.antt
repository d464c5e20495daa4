use Rattle.std.proofs.Common.{◌∙◌, None, option_map, filter, sym, ap}
use Rattle.cpa_model.specs.SystemLists.{place_of}
use Rattle.cpa_sched.specs.Least.{least_by}
use Rattle.cpa_sched.specs.Locks.{urgency_of}
use Rattle.cpa_sched.specs.Steps.{ResourceState}
use Rattle.cpa_sched.proofs.CeilingLaws.{ceiling-waits}
use Rattle.cpa_sched.proofs.locks.most_active.Goals as goal

pub received-requires : goal.received-requires
received-requires g c =
    let s = c.args.system.now in
    let q = g.Q.Queue.ready c.args.queue.now in
    let st : ResourceState = record { holder = None; left = 0 } in
    let is = c.most_active_of.ensures ∙ ap (λ js. least_by (urgency_of s q.received) (filter q.waits js)) c.tasks_on.ensures.places in
    (ceiling-waits s c.args.res.0 st q c.in-Some.task.0 (sym is ∙ ap (option_map place_of) c.in-Some.is)).waits_now

pub ticks_to_release-requires-clause-there : goal.ticks_to_release-requires-clause-there
ticks_to_release-requires-clause-there g c =
    let s = c.args.system.now in
    let q = g.Q.Queue.ready c.args.queue.now in
    let st : ResourceState = record { holder = None; left = 0 } in
    let is = c.most_active_of.ensures ∙ ap (λ js. least_by (urgency_of s q.received) (filter q.waits js)) c.tasks_on.ensures.places in
    (ceiling-waits s c.args.res.0 st q c.in-Some.task.0 (sym is ∙ ap (option_map place_of) c.in-Some.is)).on.task
