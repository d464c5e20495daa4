use Rattle.std.proofs.Common.{◌≡◌, take}
use Rattle.cpa_fix.proofs.readings.Readings.copy.Given as goal

abbrev pub invariant-loop-reading : goal.invariant-loop-reading
invariant-loop-reading l = l.kept.items ≡ take l.reading-index l.reading-items
