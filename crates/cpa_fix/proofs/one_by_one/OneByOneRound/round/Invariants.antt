use Rattle.cpa_fix.proofs.RoundLaws.{IsPartRound}
use Rattle.cpa_fix.proofs.one_by_one.OneByOneRound.round.Given as goal

abbrev pub invariant-loop-place : goal.invariant-loop-place
invariant-loop-place g l = IsPartRound l.system l.dirty l.initial.x l.x l.initial.readings l.readings l.initial.trail l.trail l.place
