use Rattle.std.proofs.Common.{◌∙◌, ◌<◌, length, sym, subst, arith}
use Rattle.std.proofs.lemmas.List.{length-map}
use Rattle.cpa_model.specs.SystemLists.{places_of}
use Rattle.cpa_sched.specs.Urgency.{IsByUrgency}
use Rattle.cpa_sched.specs.WaitingRanges.{HasWaitingRange}
use Rattle.cpa_sim.specs.Simulation.{waiting}
use Rattle.cpa_sim.proofs.ArrivalLaws.{listed-read}
use Rattle.cpa_sim.proofs.dispatches.foresee_more.Goals as goal

pub foresee-requires-clause-ranking : goal.foresee-requires-clause-ranking
foresee-requires-clause-ranking c =
    let s = c.args.system.now in
    let k = c.args.res.0 in
    let lists = c.args.orders.now.items in
    let there : k < length lists = omega (arith, c.requires.there, c.requires.orders.count, length-map lists (λ v. v.items)) in
    let read = listed-read (λ v. v.items) lists k c.index.result.now there c.index.ensures in
    subst (λ ts. IsByUrgency s k (places_of ts)) (sym (c.as_slice.ensures.value ∙ sym read)) (c.requires.orders.by_urgency k c.requires.there)

pub foresee-requires-clause-waiters : goal.foresee-requires-clause-waiters
foresee-requires-clause-waiters c =
    let k = c.args.res.0 in
    let lists = c.args.orders.now.items in
    let there : k < length lists = omega (arith, c.requires.there, c.requires.orders.count, length-map lists (λ v. v.items)) in
    let read = listed-read (λ v. v.items) lists k c.index.result.now there c.index.ensures in
    subst (λ ts. HasWaitingRange (places_of ts) (waiting c.args.queues.now) c.args.dispatch.now.waiters) (sym (c.as_slice.ensures.value ∙ sym read)) c.requires.waiters

pub returns-clause-waiters : goal.returns-clause-waiters
returns-clause-waiters c =
    let k = c.args.res.0 in
    let lists = c.args.orders.now.items in
    let there : k < length lists = omega (arith, c.requires.there, c.requires.orders.count, length-map lists (λ v. v.items)) in
    let read = listed-read (λ v. v.items) lists k c.index.result.now there c.index.ensures in
    subst (λ ts. HasWaitingRange (places_of ts) (waiting c.args.queues.now) c.foresee.new.dispatch.waiters) (c.as_slice.ensures.value ∙ sym read) c.foresee.ensures.waiters
