use Rattle.cpa_effects.specs.Bounds.{forward}
use Rattle.cpa_effects.proofs.SumLaws.{one-more, limit-more}
use Rattle.cpa_effects.proofs.bounds.latency_by.Goals as goal

pub loop-k-preserved : goal.loop-k-preserved
loop-k-preserved c =
    record {
      sum = one-more (forward c.args.reading c.args.system.now c.args.x.now c.args.tasks.now) c.loop-k.k c.loop-k.sum c.forward.result c.plus-sum.result c.loop-k.invariant.sum c.forward.ensures.value c.plus-sum.ensures;
      few = limit-more c.loop-k.k c.loop-k.sum c.forward.result c.plus-sum.result c.loop-k.invariant.few c.forward.ensures.few c.plus-sum.ensures;
    }
