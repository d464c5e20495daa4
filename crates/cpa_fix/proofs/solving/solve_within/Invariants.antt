use Rattle.std.proofs.Common.{◌+◌, ◌*◌}
use Rattle.cpa_fix.specs.Readings.{AreKeptBeyond}
use Rattle.cpa_fix.proofs.SolveLaws.{IsSearch, room, pending}
use Rattle.cpa_fix.proofs.solving.solve_within.Given as goal

abbrev pub invariant-rounds : goal.invariant-rounds
invariant-rounds g l = record {
  search : IsSearch l.system l.fn.start l.fn.kept l.initial.trail l.x l.readings l.dirty l.trail;
  beyond : AreKeptBeyond l.fn.kept l.readings l.fn.reach;
}

abbrev pub decreases-rounds : goal.decreases-rounds
decreases-rounds g l = 2 * room l.x + pending l.dirty
