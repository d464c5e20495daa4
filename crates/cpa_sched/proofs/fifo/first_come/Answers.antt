use Rattle.std.proofs.Common.{◌≡◌, ◌∙◌, None, option_map, filter, sym, ap}
use Rattle.cpa_model.specs.SystemLists.{place_of, tasks_on}
use Rattle.cpa_sched.specs.Steps.{ResourceState}
use Rattle.cpa_sched.specs.States.{IsWaiting}
use Rattle.cpa_sched.specs.Least.{least_by}
use Rattle.cpa_sched.proofs.FifoLaws.{fifo-waits}
use Rattle.cpa_sched.proofs.StretchLaws.{choice, for-task}
use Rattle.cpa_sched.proofs.fifo.first_come.Goals as goal

pub returns-clause-step : goal.returns-clause-step
returns-clause-step g c st =
    let q = g.Q.Queue.ready c.args.queue.now in
    ap (λ o. choice o st) (c.earliest.ensures ∙ ap (λ js. least_by q.arrival (filter q.waits js)) c.tasks_on.ensures.places)

pub returns-clause-waits : goal.returns-clause-waits
returns-clause-waits g c =
    let s = c.args.system.now in
    let q = g.Q.Queue.ready c.args.queue.now in
    let st : ResourceState = record { holder = None; left = 0 } in
    let is : option_map place_of c.earliest.result ≡ least_by q.arrival (filter q.waits (tasks_on s c.args.res.0)) = c.earliest.ensures ∙ ap (λ js. least_by q.arrival (filter q.waits js)) c.tasks_on.ensures.places in
    for-task (IsWaiting s c.args.res.0 q.waits) c.earliest.result (λ j e. fifo-waits s c.args.res.0 st q j (sym is ∙ e))
