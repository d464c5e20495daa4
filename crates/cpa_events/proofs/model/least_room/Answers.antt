use Rattle.std.proofs.Common.{◌≡◌, ◌-◌, ◌+◌, ◌/◌, ◌<◌, ◌≤◌, sym, arith}
use Rattle.cpa_events.proofs.EventLaws.{eta_plus-mono, delta_minus-is, in_range-is_model}
use Rattle.cpa_events.proofs.model.least_room.Goals as goal

pub loop-low-preserved-then-events_in-from : goal.loop-low-preserved-then-events_in-from
loop-low-preserved-then-events_in-from c =
    let low = c.loop-low.low in
    let high = c.loop-low.high in
    let less : low < high = c.loop-low-test.true in
    let middle : low + (high - low) / 2 + 1 ≤ high = omega arith in
    record {
      order = middle;
      small = c.loop-low.invariant.small;
      room = c.loop-low.invariant.room;
      none = λ v before.
          let grown = eta_plus-mono c.args.streams.now (v + 1) (low + (high - low) / 2 + 1) (omega arith) in
          omega (arith, c.events_in.ensures, c.if-events_in-from.true, c.from.ensures);
    }

pub returns : goal.returns
returns c =
    let same : c.loop-low.high ≤ c.loop-low.low = omega arith in
    sym (delta_minus-is c.args.streams.now c.args.n c.loop-low.low (in_range-is_model c.args.streams.now c.requires.streams)
    (let e : c.loop-low.low ≡ c.loop-low.high = omega (arith, c.loop-low.invariant.order) in rw e c.loop-low.invariant.room)
    c.loop-low.invariant.none)
