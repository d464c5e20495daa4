use Rattle.cpa_workers.proofs.SettleLaws.{IsTakenTo}
use Rattle.cpa_workers.proofs.round_end.take_words.Given as goal

abbrev pub invariant-loop-place : goal.invariant-loop-place
invariant-loop-place l = IsTakenTo l.system l.dirty l.initial.x l.words l.x l.place
