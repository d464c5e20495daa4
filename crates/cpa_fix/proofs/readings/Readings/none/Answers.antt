use Rattle.std.proofs.Common.{◌≡◌, length, arith}
use Rattle.cpa_fix.proofs.SolveLaws.{none-sound}
use Rattle.cpa_fix.proofs.readings.Readings.none.Goals as goal

pub returns-clause-sound : goal.returns-clause-sound
returns-clause-sound c x =
    let whole : c.loop.counter ≡ length c.args.system.now.resources = omega (arith, c.resources-count.ensures.count) in
    rw (c.loop.invariant, whole) (none-sound c.args.system.now x)
