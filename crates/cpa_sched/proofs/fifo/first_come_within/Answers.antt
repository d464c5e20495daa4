use Rattle.std.proofs.Common.{◌≡◌, ◌∙◌, ◌≤◌, Option, Some, None, filter, option_map, refl, sym, ap, arith}
use Rattle.cpa_units.specs.declared.places.TaskId.{TaskId}
use Rattle.cpa_model.specs.SystemLists.{place_of, places_of}
use Rattle.cpa_sched.specs.Steps.{Choice, ResourceState, first_of}
use Rattle.cpa_sched.proofs.FifoLaws.{fifo-busy, first-waits, fifo-soonest, fifo-none, fifo-since}
use Rattle.cpa_sched.proofs.StretchLaws.{choice}
use Rattle.cpa_sched.proofs.fifo.first_come_within.Goals as goal

none-found : (o : Option TaskId) → ((task : TaskId) → o ≡ Some task → ⊥) → option_map place_of o ≡ None
none-found None never = refl
none-found (Some task) never = absurd (never task refl)

pub returns-in_default-clause-step : goal.returns-in_default-clause-step
returns-in_default-clause-step g c st =
    let s = c.args.system.now in
    let r = c.args.ranking.now.res.0 in
    let q = g.Q.Queue.ready c.args.queue.now in
    let js = places_of c.args.ranking.now.tasks.now in
    let none : first_of (filter q.waits js) ≡ None = sym c.first_waiting.ensures.first ∙ none-found c.first_waiting.result c.in_default.not-Some in
    ap (λ o. choice o st) (sym (fifo-none s r c.has_rules.ensures c.requires.kind st q js c.requires.ranking none))

pub returns-in_default-clause-waiters : goal.returns-in_default-clause-waiters
returns-in_default-clause-waiters g c p less waits =
    let at = c.first_waiting.ensures.waiters p less waits in
    record { place = at.place; first = at.first; last = at.last; early = at.early; same = at.same }

-- nobody waits
pub returns-in_default-clause-since : goal.returns-in_default-clause-since
returns-in_default-clause-since g c queue j w =
    let s = c.args.system.now in
    let r = c.args.ranking.now.res.0 in
    let q = g.Q.Queue.ready c.args.queue.now in
    let js = places_of c.args.ranking.now.tasks.now in
    let st : ResourceState = record { holder = None; left = 0 } in
    let none : first_of (filter q.waits js) ≡ None = sym c.first_waiting.ensures.first ∙ none-found c.first_waiting.result c.in_default.not-Some in
    absurd (fifo-busy s r st q j w (fifo-none s r c.has_rules.ensures c.requires.kind st q js c.requires.ranking none))

pub arrival-requires : goal.arrival-requires
arrival-requires g c =
    let s = c.args.system.now in
    let r = c.args.ranking.now.res.0 in
    let q = g.Q.Queue.ready c.args.queue.now in
    let js = places_of c.args.ranking.now.tasks.now in
    let st : ResourceState = record { holder = None; left = 0 } in
    let found : first_of (filter q.waits js) ≡ Some c.in-Some.task.0 = sym c.first_waiting.ensures.first ∙ ap (option_map place_of) c.in-Some.is in
    (first-waits s r c.has_rules.ensures c.requires.kind st q js c.requires.ranking c.in-Some.task.0 found).waits_now

pub returns-then-arrival-waiters-clause-step : goal.returns-then-arrival-waiters-clause-step
returns-then-arrival-waiters-clause-step g c st =
    let s = c.args.system.now in
    let r = c.args.ranking.now.res.0 in
    let q = g.Q.Queue.ready c.args.queue.now in
    let js = places_of c.args.ranking.now.tasks.now in
    let found : first_of (filter q.waits js) ≡ Some c.in-Some.task.0 = sym c.first_waiting.ensures.first ∙ ap (option_map place_of) c.in-Some.is in
    let soon : q.arrival c.in-Some.task.0 ≤ c.args.waiters.now.since = omega (arith, c.arrival.ensures, c.if-arrival-waiters.true, c.first_waiting.ensures.since) in
    ap (λ o. choice o st) (sym (fifo-soonest s r c.has_rules.ensures c.requires.kind st q js c.requires.ranking c.in-Some.task.0 c.args.waiters.now.since found c.requires.since soon))

pub returns-in-Some-task-clause-waiters : goal.returns-in-Some-task-clause-waiters
returns-in-Some-task-clause-waiters g c p less waits =
    let at = c.first_waiting.ensures.waiters p less waits in
    record { place = at.place; first = at.first; last = at.last; early = at.early; same = at.same }

pub returns-in-Some-task-clause-since : goal.returns-in-Some-task-clause-since
returns-in-Some-task-clause-since g c queue j w =
    let s = c.args.system.now in
    let r = c.args.ranking.now.res.0 in
    let q = g.Q.Queue.ready c.args.queue.now in
    let st : ResourceState = record { holder = None; left = 0 } in
    let is = sym (ap (λ (x : Choice). x.task) (c.first_come-stretch.ensures.step st)) ∙ ap (option_map place_of) c.in-Some-task.is in
    omega (arith, c.arrival-waiters.ensures, fifo-since s r st q c.in-Some-task.first.0 is queue j w)
