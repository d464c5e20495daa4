use Rattle.std.proofs.Common.{take}
use Rattle.cpa_window.specs.Rivals.{bounded_work, IsConstant}
use Rattle.cpa_window.proofs.rivals.work_until.Given as goal

abbrev pub invariant-loop-rival : goal.invariant-loop-rival
invariant-loop-rival l = IsConstant (bounded_work (take l.rival-index l.rivals)) l.window l.until
