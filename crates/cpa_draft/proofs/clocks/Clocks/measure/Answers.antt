use Rattle.std.proofs.Common.{refl}
use Rattle.cpa_draft.proofs.MeasureLaws.{measured-lookup}
use Rattle.cpa_draft.proofs.clocks.Clocks.measure.Goals as goal

pub returns-in-Some : goal.returns-in-Some
returns-in-Some c = rw (← c.self.view_is) (rw (measured-lookup, ← c.get.ensures.value, c.in-Some.is) refl)

pub returns-in-None : goal.returns-in-None
returns-in-None c = rw (← c.self.view_is) (rw (measured-lookup, ← c.get.ensures.value, c.in-None.is) refl)
