use Rattle.cpa_fix.proofs.ReadingLaws.{IsTakenOver}
use Rattle.cpa_fix.proofs.readings.Readings.take_over.Given as goal

abbrev pub invariant-loop-place : goal.invariant-loop-place
invariant-loop-place l = IsTakenOver l.fn.others l.initial.self-inside.kept.items l.all.items l.self-inside.kept.items l.place
