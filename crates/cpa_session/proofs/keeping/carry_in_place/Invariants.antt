use Rattle.cpa_session.specs.Spared.{place_before}
use Rattle.std.proofs.Common.{None}
use Rattle.cpa_session.proofs.KeepingLaws.{AreCarriedUpTo}
use Rattle.cpa_session.proofs.keeping.carry_in_place.Given as goal

abbrev pub invariant-loop-place : goal.invariant-loop-place
invariant-loop-place l = AreCarriedUpTo l.system (place_before None) l.fn.reached l.fn.readings l.readings l.place
