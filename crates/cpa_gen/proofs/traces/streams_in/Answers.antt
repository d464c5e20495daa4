use Rattle.std.proofs.Common.{length, arith}
use Rattle.cpa_model.specs.SystemLists.{streams_of}
use Rattle.cpa_gen.proofs.ShiftLaws.{sum_more}
use Rattle.cpa_gen.proofs.traces.streams_in.Goals as goal

pub loop-i-preserved : goal.loop-i-preserved
loop-i-preserved c =
    let more = sum_more (λ i. length (streams_of c.args.system.now i)) c.loop-i.i in
    record {
      sum = omega (arith, c.loop-i.invariant.sum, c.from-total.ensures, c.streams-count.ensures.count, more);
      few = omega (arith, c.loop-i.invariant.few, c.from-total.ensures, c.streams-count.ensures.few);
    }
