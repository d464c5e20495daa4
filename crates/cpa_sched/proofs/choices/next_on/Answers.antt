use Rattle.std.proofs.Common.{◌∙◌, option_map, sym}
use Rattle.cpa_model.specs.SystemLists.{place_of}
use Rattle.cpa_sched.specs.States.{IsWaiting}
use Rattle.cpa_sched.proofs.RingLaws.{next-on_ring, next-waits}
use Rattle.cpa_sched.proofs.StretchLaws.{for-task}
use Rattle.cpa_sched.proofs.choices.next_on.Goals as goal

pub returns-clause-next : goal.returns-clause-next
returns-clause-next g c =
    next-on_ring c.args.system.now c.args.res.0 c.args.holder.0 (g.Q.Queue.ready c.args.queue.now).waits c.tasks_on.result.now (option_map place_of c.next_waiting.result) c.tasks_on.ensures.places c.requires.holder c.next_waiting.ensures

pub returns-clause-waits : goal.returns-clause-waits
returns-clause-waits g c =
    let s = c.args.system.now in
    let w = (g.Q.Queue.ready c.args.queue.now).waits in
    let next = next-on_ring s c.args.res.0 c.args.holder.0 w c.tasks_on.result.now (option_map place_of c.next_waiting.result) c.tasks_on.ensures.places c.requires.holder c.next_waiting.ensures in
    for-task (IsWaiting s c.args.res.0 w) c.next_waiting.result (λ j e. next-waits s c.args.res.0 c.args.holder.0 w j c.requires.holder (sym next ∙ e))
