use Rattle.std.proofs.Common.{◌↔◌}
use Rattle.cpa_units.specs.declared.bound.Bound.{Bound}
use Rattle.cpa_assign.specs.Orders.{IsWithinDeadline}
use Rattle.cpa_assign.proofs.PlacingLaws.{AreInTimeTo}
use Rattle.cpa_assign.proofs.placing.least_deadline.Given as goal

abbrev pub invariant-loop-k : goal.invariant-loop-k
invariant-loop-k l = (b : Bound) → AreInTimeTo l.system l.task.0 l.k b ↔ IsWithinDeadline l.least b
