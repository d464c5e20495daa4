use Rattle.std.proofs.Common.{arith}
use Rattle.cpa_sim.proofs.CursorLaws.{quiet-more}
use Rattle.cpa_sim.proofs.source_cursors.quiet_from.Goals as goal

pub loop-k-preserved : goal.loop-k-preserved
loop-k-preserved c =
    record {
      value = λ t. quiet-more c.args.trace.now.times c.loop-k.k t c.loop-k.quiet c.after_last.result c.max-quiet.result (omega arith) (omega arith) (c.loop-k.invariant.value t) (c.after_last.ensures.value t);
      small = omega arith;
    }
