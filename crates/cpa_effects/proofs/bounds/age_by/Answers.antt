use Rattle.std.proofs.Common.{◌+◌, arith}
use Rattle.cpa_effects.proofs.SumLaws.{arrives-first, arrives-more, arrives-small, renewed-first, renewed-more, renewed-small, limit-more}
use Rattle.cpa_effects.proofs.bounds.age_by.Goals as goal

pub loop-k-init : goal.loop-k-init
loop-k-init c =
    record {
      old = arrives-first c.args.reading c.args.system.now c.args.x.now c.args.tasks.now;
      renewed = renewed-first c.args.reading c.args.system.now c.args.x.now c.args.tasks.now c.wait-renewed.result c.wait-renewed.ensures.value;
      few = renewed-small c.wait-renewed.result c.wait-renewed.ensures.few;
      small = omega arith;
    }

pub loop-k-preserved : goal.loop-k-preserved
loop-k-preserved c =
    record {
      old = arrives-more c.args.reading c.args.system.now c.args.x.now c.args.tasks.now c.loop-k.k c.loop-k.old c.loop-k.renewed c.backward-next.result c.loop-k.invariant.old c.loop-k.invariant.renewed c.backward-next.ensures.value;
      renewed = renewed-more c.args.reading c.args.system.now c.args.x.now c.args.tasks.now c.loop-k.k c.loop-k.renewed c.forward.result c.plus-renewed.result c.loop-k.invariant.renewed c.forward.ensures.value c.plus-renewed.ensures;
      few = limit-more (c.loop-k.k + 1) c.loop-k.renewed c.forward.result c.plus-renewed.result c.loop-k.invariant.few c.forward.ensures.few c.plus-renewed.ensures;
      small = arrives-small c.args.reading c.args.system.now c.args.x.now c.args.tasks.now c.loop-k.k c.loop-k.old c.loop-k.renewed c.backward-next.result c.requires.vector (c.requires.there c.loop-k.k (record { 0 = 0 }) (omega (arith, c.loop-k-test.true, c.requires.some))) c.loop-k.invariant.small c.loop-k.invariant.few c.backward-next.ensures.value;
    }
