use Rattle.std.proofs.Common.{suc, ◌-◌, option_map, refl, sym, ap, ◌∙◌, arith}
use Rattle.std.proofs.lemmas.Option.{IfSome_then}
use Rattle.cpa_model.specs.Chains.{activators}
use Rattle.cpa_model.specs.declared.entries.Activator.TheVariants.{Source, Task}
use Rattle.cpa_model.proofs.ChainLaws.{depth_within-none, one_more-few, longer-few, depth-more, depth-all}
use Rattle.cpa_model.proofs.chains.+chain_depth.Goals.{in-Source, in-Task}
use Rattle.cpa_model.proofs.chains.+chain_depth.Goals as goal

pub returns-then-most-eq0-clause-value : goal.returns-then-most-eq0-clause-value
returns-then-most-eq0-clause-value t c = sym (depth_within-none _ c.args.most c.args.task c.if-most-eq0.true)

pub returns-clause-value : goal.returns-clause-value
returns-clause-value t c =
    depth-all (activators c.args.tasks.now) c.args.most c.args.task c.loop-after.after-index c.activators_of-after-items.result.now c.loop-after.longest (omega arith) c.activators_of-after-items.ensures
    c.loop-after-test.false c.loop-after.invariant.value

pub returns-clause-few : goal.returns-clause-few
returns-clause-few t c = c.loop-after.invariant.few

pub loop-after-init : goal.loop-after-init
loop-after-init t c = record { value = refl; few = omega arith }

pub chain_depth-requires : goal.chain_depth-requires
chain_depth-requires t c = (omega (arith, c.decreases), tt)

pub one_more-depth-requires : goal.one_more-depth-requires
one_more-depth-requires t c = IfSome_then c.chain_depth.result c.chain_depth.ensures.few (λ d few. omega arith)

pub loop-after-preserved : goal.loop-after-preserved
loop-after-preserved t c =
    let more = depth-more (activators c.args.tasks.now) (c.args.most - 1) c.loop-after.after-index c.activators_of-after-items.result.now in record {
      value = elim c.match-after.branch [
        | in-Source w ↦
            more (Source w.in-Source.field-0) (Source (record { 0 = 0 })) c.loop-after.longest c.match-after.depth c.longer-longest.result c.loop-after-test.true w.in-Source.is w.depth-is c.loop-after.invariant.value
            c.longer-longest.ensures
        | in-Task w ↦
            more (Task w.in-Task.next) (Source (record { 0 = 0 })) c.loop-after.longest c.match-after.depth c.longer-longest.result c.loop-after-test.true w.in-Task.is
            (w.depth-is ∙ w.one_more-depth.ensures ∙ ap (option_map suc) w.chain_depth.ensures.value) c.loop-after.invariant.value c.longer-longest.ensures
      ];
      few = rw c.longer-longest.ensures (longer-few c.loop-after.longest c.match-after.depth c.args.most c.loop-after.invariant.few (elim c.match-after.branch [
        | in-Source w ↦ rw w.depth-is (omega arith)
        | in-Task w ↦ rw (w.depth-is, w.one_more-depth.ensures) (one_more-few w.chain_depth.result c.args.most (omega arith) w.chain_depth.ensures.few)
      ]));
    }
