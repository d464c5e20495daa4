use Rattle.std.proofs.Common.{arith}
use Rattle.cpa_assign.proofs.PlacingLaws.{only-one, alone-in_time}
use Rattle.cpa_assign.proofs.placing.own_deadline.Goals as goal

pub returns : goal.returns
returns c =
    rw (← c.path-entry.ensures.value) (λ b.
    alone-in_time c.path-entry.result.now c.args.task.0
    (only-one c.path-entry.result.now.tasks c.args.task.0 c.get.result (omega (arith, c.len.ensures, c.if-len-ne1.false)) c.get.ensures c.if-get-task.false) b)
