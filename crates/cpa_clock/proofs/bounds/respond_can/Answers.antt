use Rattle.std.proofs.Common.{◌∙◌, ap, sym}
use Rattle.cpa_clock.specs.Anchors.{placed_at}
use Rattle.cpa_clock.specs.Gathered.{anchors_at, own_clock}
use Rattle.cpa_clock.proofs.GatheredLaws.{cycle_of_clock, gathered-clocks, own-anchored, own-placed, can-apart, can-on}
use Rattle.cpa_clock.proofs.bounds.respond_can.Goals as goal

pub bounds-cycles-anchor : goal.bounds-cycles-anchor
bounds-cycles-anchor c = (own-anchored c.args.own.now c.args.anchors.now c.args.cycles.now c.in-Some.anchor c.requires.own (sym c.in-Some.ensures) c.get.result).there

pub respond-requires-clause-own : goal.respond-requires-clause-own
respond-requires-clause-own c =
    let there = (own-anchored c.args.own.now c.args.anchors.now c.args.cycles.now c.in-Some.anchor c.requires.own (sym c.in-Some.ensures) c.get.result).there in
    let own = own-placed c.args.own.now c.args.anchors.now c.args.cycles.now c.in-Some.anchor c.requires.own (sym c.in-Some.ensures) c.get.result c.args.worst c.requires.worst in
    let placed = c.placed_at-placed.ensures ∙ ap (λ s. placed_at s c.in-Some.anchor c.args.worst) c.get.ensures in
    rw (cycle_of_clock c.args.cycles.now c.in-Some.anchor.clock there, placed) own

pub respond-requires-clause-clocks : goal.respond-requires-clause-clocks
respond-requires-clause-clocks c =
    rw c.clocks-clocks.ensures (gathered-clocks (own_clock c.args.own.now (anchors_at c.args.anchors.now)) c.args.cycles.now c.args.gathered.now c.requires.cycles c.requires.gathered)

pub respond_apart-requires-clause-clocks : goal.respond_apart-requires-clause-clocks
respond_apart-requires-clause-clocks c =
    rw c.clocks-clocks.ensures (gathered-clocks (own_clock c.args.own.now (anchors_at c.args.anchors.now)) c.args.cycles.now c.args.gathered.now c.requires.cycles c.requires.gathered)

pub returns-in-Some : goal.returns-in-Some
returns-in-Some c rivals h =
    let there = (own-anchored c.args.own.now c.args.anchors.now c.args.cycles.now c.in-Some.anchor c.requires.own (sym c.in-Some.ensures) c.get.result).there in
    let placed = c.placed_at-placed.ensures ∙ ap (λ s. placed_at s c.in-Some.anchor c.args.worst) c.get.ensures in
    let same = can-on c.args.own.now c.args.anchors.now c.args.cycles.now c.args.worst c.args.blocking c.args.limit rivals c.args.gathered.now h c.args.bit c.in-Some.anchor c.get.result (sym c.in-Some.ensures) in
    let computed = rw (cycle_of_clock c.args.cycles.now c.in-Some.anchor.clock there, placed, c.as_slice-joint.ensures.value, c.clocks-clocks.ensures, c.as_slice-free.ensures.value) at c.respond.ensures in
    rw (sym same) computed

pub returns-in-None : goal.returns-in-None
returns-in-None c rivals h =
    let same = can-apart c.args.own.now c.args.anchors.now c.args.cycles.now c.args.worst c.args.blocking c.args.limit rivals c.args.gathered.now h c.args.bit (sym c.in-None.ensures) in
    let computed = rw (c.clocks-clocks.ensures, c.as_slice-free.ensures.value) at c.respond_apart.ensures in
    computed ∙ same
