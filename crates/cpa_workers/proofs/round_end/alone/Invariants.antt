use Rattle.cpa_fix.proofs.RoundLaws.{IsPartRound}
use Rattle.cpa_workers.proofs.round_end.alone.Given as goal

abbrev pub invariant-loop-place : goal.invariant-loop-place
invariant-loop-place g l = IsPartRound l.dirty.system.now l.dirty.set l.initial.x l.x l.initial.readings l.readings l.initial.trail l.trail l.place
