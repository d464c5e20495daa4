use Rattle.std.proofs.Common.{arith}
use Rattle.cpa_events.proofs.EventLaws.{steady_more}
use Rattle.cpa_events.proofs.model.steady.Goals as goal

pub loop-stream-preserved : goal.loop-stream-preserved
loop-stream-preserved c w later sooner =
    steady_more c.args.streams.now c.loop-stream.stream-index _ c.args.delta w c.loop-stream-test.true
    (c.loop-stream.invariant w later (omega (arith, c.min-until.ensures)))
    (let same = c.constant_until.ensures w later (omega (arith, c.min-until.ensures)) in rw (c.stream.ensures, c.stream-item.is) at same)
