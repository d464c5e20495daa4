use Rattle.std.proofs.Common.{◌≡◌, length, ap, arith}
use Rattle.cpa_fix.proofs.ReadingLaws.{reading-in_range}
use Rattle.cpa_fix.proofs.readings.Readings.take_over.Goals as goal

pub returns-clause-taken : goal.returns-clause-taken
returns-clause-taken c r reading e =
    let less = reading-in_range c.args.others r reading e in
    let same : length c.others.inside.kept.items ≡ length c.args.others = ap length c.others.view_is in
    let rest = c.loop-place.invariant.rest in
    let end = c.loop-place.auto.place-end in
    let long = c.len-place-end.ensures in
    let over = c.loop-place-test.false in
    c.loop-place.invariant.taken r reading (omega arith) e
