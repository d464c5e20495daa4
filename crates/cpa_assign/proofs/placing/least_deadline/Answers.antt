use Rattle.std.proofs.Common.{arith}
use Rattle.cpa_assign.proofs.PlacingLaws.{in_time-more, in_time-all}
use Rattle.cpa_assign.proofs.placing.least_deadline.Goals as goal

pub loop-k-preserved : goal.loop-k-preserved
loop-k-preserved c =
    in_time-more c.args.system.now c.args.task.0 c.loop-k.k c.loop-k.least c.own_deadline.result c.shorter-least.result c.loop-k.invariant c.own_deadline.ensures c.shorter-least.ensures

pub returns : goal.returns
returns c =
    in_time-all c.args.system.now c.args.task.0 c.loop-k.k c.loop-k.least (omega (arith, c.paths-k-end.ensures.count)) c.loop-k.invariant
