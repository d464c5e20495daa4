use Rattle.std.proofs.Common.{◌≡◌, replicate, None}
use Rattle.cpa_fix.proofs.readings.Readings.none.Given as goal

abbrev pub invariant-loop : goal.invariant-loop
invariant-loop l = l.kept.items ≡ replicate l.counter None
