use Rattle.std.proofs.Common.{take}
use Rattle.cpa_window.specs.Rivals.{bounded_work}
use Rattle.cpa_fifo.specs.FifoWork.{IsConstantFrom}
use Rattle.cpa_fifo.proofs.work_from.Given as goal

abbrev pub invariant-loop-rival : goal.invariant-loop-rival
invariant-loop-rival l = IsConstantFrom (bounded_work (take l.rival-index l.rivals)) l.window l.from
