use Rattle.std.proofs.Common.{sym}
use Rattle.std.proofs.Math.Nat.{mod-eq_of_lt}
use Rattle.cpa_phase.proofs.placed.rest.Goals as goal

pub returns-then-x-period-clause-value : goal.returns-then-x-period-clause-value
returns-then-x-period-clause-value c = sym (mod-eq_of_lt c.if-x-period.true)
