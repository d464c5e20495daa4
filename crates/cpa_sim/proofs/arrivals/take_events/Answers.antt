use Rattle.std.proofs.Common.{[], length, sym, arith}
use Rattle.cpa_model.specs.declared.entries.Activator.TheVariants.{Source}
use Rattle.cpa_model.specs.SystemLists.{is_fed_by}
use Rattle.cpa_sim.specs.Run.{events_at, by_source, by_sources}
use Rattle.cpa_sim.proofs.RangeLaws.{flat_map-none}
use Rattle.cpa_sim.proofs.CauseLists.{by-none}
use Rattle.cpa_sim.proofs.ArrivalLaws.{given-none, given-same}
use Rattle.cpa_sim.proofs.arrivals.take_events.Goals as goal

pub returns-then-now-next_event-clause-given : goal.returns-then-now-next_event-clause-given
returns-then-now-next_event-clause-given c =
    let s = c.args.context.now.system.now in
    let tr = c.args.context.now.trace.now in
    let now = c.args.now in
    let queues = c.args.queues.now.items in
    let dispatches = c.args.dispatches.now.items in
    given-same s c.args.context.now.places.now.items now (λ i. []) (by_sources s tr now) queues dispatches queues dispatches (given-none s c.args.context.now.places.now.items now queues dispatches c.requires.queues c.requires.dispatches)
    (λ i less. sym
    (flat_map-none (λ k. by_source s tr now k i) 0 (length s.sources)
    (λ k low high. by-none (is_fed_by s k i) (Source (record { 0 = k })) (events_at tr k now) (c.requires.silent k (omega arith) (omega (arith, c.if-now-next_event.true, c.requires.soonest k (omega arith)))))))
