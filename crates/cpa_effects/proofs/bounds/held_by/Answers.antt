use Rattle.std.proofs.Common.{◌+◌}
use Rattle.cpa_effects.proofs.SumLaws.{renewed-first, renewed-more, renewed-small, limit-more}
use Rattle.cpa_effects.proofs.bounds.held_by.Goals as goal

pub loop-k-init : goal.loop-k-init
loop-k-init c =
    record {
      renewed = renewed-first c.args.reading c.args.system.now c.args.x.now c.args.tasks.now c.wait-renewed.result c.wait-renewed.ensures.value;
      few = renewed-small c.wait-renewed.result c.wait-renewed.ensures.few;
    }

pub loop-k-preserved : goal.loop-k-preserved
loop-k-preserved c =
    record {
      renewed = renewed-more c.args.reading c.args.system.now c.args.x.now c.args.tasks.now c.loop-k.k c.loop-k.renewed c.forward.result c.plus-renewed.result c.loop-k.invariant.renewed c.forward.ensures.value c.plus-renewed.ensures;
      few = limit-more (c.loop-k.k + 1) c.loop-k.renewed c.forward.result c.plus-renewed.result c.loop-k.invariant.few c.forward.ensures.few c.plus-renewed.ensures;
    }
