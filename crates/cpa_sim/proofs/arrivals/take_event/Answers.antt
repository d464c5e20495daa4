use Rattle.std.proofs.Common.{◌∙◌, ◌-◌, ◌<◌, length, [], cond, sym, ap, arith}
use Rattle.std.specs.List.{range_with_len}
use Rattle.std.proofs.lemmas.List.{length-map}
use Rattle.std.proofs.lemmas.List.FromFn.{length-range_with_len}
use Rattle.cpa_model.specs.declared.entries.Activator.TheVariants.{Source}
use Rattle.cpa_model.specs.SystemLists.{places_of, is_fed_by}
use Rattle.cpa_sim.specs.Run.{causes_by, by_source}
use Rattle.cpa_sim.specs.Arrivals.{is_among}
use Rattle.cpa_sim.proofs.JobCount.{events-few}
use Rattle.cpa_sim.proofs.ArrivalLaws.{given-same, among-is, list-of, place_in, listed-there, listed-among, listed-read}
use Rattle.cpa_sim.proofs.arrivals.take_event.Goals as goal

pub arrive_at_all-requires-clause-tasks : goal.arrive_at_all-requires-clause-tasks
arrive_at_all-requires-clause-tasks c =
    let s = c.args.context.now.system.now in
    let k = c.args.source.0 in
    let lists = c.args.context.now.successors.now.by_source.items in
    let there : k < length lists = omega (arith, c.requires.there, c.requires.successors.count_sources, length-map lists (λ v. v.items)) in
    let read = listed-read (λ v. v.items) lists k c.index.result.now there c.index.ensures in
    let are = ap places_of (c.as_slice-tasks.ensures.value ∙ sym read) ∙ c.requires.successors.fed k c.requires.there in
    list-of s (is_fed_by s k) c.as_slice-tasks.result.now are

pub arrive_at_all-requires-clause-few : goal.arrive_at_all-requires-clause-few
arrive_at_all-requires-clause-few c = λ i less among.
    let s = c.args.context.now.system.now in
    let k = c.args.source.0 in
    let lists = c.args.context.now.successors.now.by_source.items in
    let there : k < length lists = omega (arith, c.requires.there, c.requires.successors.count_sources, length-map lists (λ v. v.items)) in
    let read = listed-read (λ v. v.items) lists k c.index.result.now there c.index.ensures in
    let are = ap places_of (c.as_slice-tasks.ensures.value ∙ sym read) ∙ c.requires.successors.fed k c.requires.there in
    let cursors = sym (among-is s (is_fed_by s k) c.as_slice-tasks.result.now are i less) ∙ among in
    omega (arith, c.requires.few i less cursors, ap length c.pass-next.ensures.fresh, length-range_with_len c.args.cursor.next (c.pass-next.result - c.args.cursor.next))

-- its events are no more than a trace may have jobs
pub arrive_at_all-requires-clause-numbers : goal.arrive_at_all-requires-clause-numbers
arrive_at_all-requires-clause-numbers c = λ some.
    let s = c.args.context.now.system.now in
    let k = c.args.source.0 in
    let tasks = c.as_slice-tasks.result.now in
    let lists = c.args.context.now.successors.now.by_source.items in
    let there : k < length lists = omega (arith, c.requires.there, c.requires.successors.count_sources, length-map lists (λ v. v.items)) in
    let read = listed-read (λ v. v.items) lists k c.index.result.now there c.index.ensures in
    let are = ap places_of (c.as_slice-tasks.ensures.value ∙ sym read) ∙ c.requires.successors.fed k c.requires.there in
    let list = list-of s (is_fed_by s k) tasks are in
    let i = place_in tasks 0 in
    let less = listed-there s tasks list 0 some in
    let cursors = sym (among-is s (is_fed_by s k) tasks are i less) ∙ listed-among s tasks list 0 some in
    omega (arith, events-few s c.args.context.now.trace.now c.has_rules.ensures c.requires.can k i c.requires.there less cursors, c.pass-next.ensures.passed.within, c.pass-next.ensures.later)

pub returns-clause-given : goal.returns-clause-given
returns-clause-given c =
    let s = c.args.context.now.system.now in
    let k = c.args.source.0 in
    let tasks = c.as_slice-tasks.result.now in
    let lists = c.args.context.now.successors.now.by_source.items in
    let there : k < length lists = omega (arith, c.requires.there, c.requires.successors.count_sources, length-map lists (λ v. v.items)) in
    let read = listed-read (λ v. v.items) lists k c.index.result.now there c.index.ensures in
    let are = ap places_of (c.as_slice-tasks.ensures.value ∙ sym read) ∙ c.requires.successors.fed k c.requires.there in
    let new = causes_by (Source c.args.source) (range_with_len c.args.cursor.next (c.pass-next.result - c.args.cursor.next)) in
    given-same s c.args.context.now.places.now.items c.args.now (λ i. cond (is_among tasks i) new []) (by_source s c.args.context.now.trace.now c.args.now k) c.args.queues.now.items c.args.dispatches.now.items c.arrive_at_all.new.queues.items c.arrive_at_all.new.dispatches.items
    c.in_ok-arrive_at_all.ensures.given
    (λ i less. ap (λ b. cond b new []) (among-is s (is_fed_by s k) tasks are i less) ∙ ap (λ ns. cond (is_fed_by s k i) (causes_by (Source c.args.source) ns) []) (sym c.pass-next.ensures.fresh))
