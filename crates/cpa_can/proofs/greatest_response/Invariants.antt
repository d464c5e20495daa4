use Rattle.cpa_can.proofs.FrameLaws.{IsUnderWay}
use Rattle.cpa_can.proofs.greatest_response.Given as goal

abbrev pub invariant-loop-earlier : goal.invariant-loop-earlier
invariant-loop-earlier l =
    IsUnderWay l.own l.starts.worst l.starts.blocking l.starts.rivals.now l.starts.bit l.limit l.earlier l.from l.steady l.greatest
