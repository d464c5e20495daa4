use Rattle.std.proofs.Common.{take}
use Rattle.cpa_rr.specs.RoundRobinWork.{shares_of, IsSettled}
use Rattle.cpa_rr.proofs.shares_until.Given as goal

abbrev pub invariant-loop-rival : goal.invariant-loop-rival
invariant-loop-rival l = IsSettled (shares_of (take l.rival-index l.rivals)) l.rounds l.window l.until
