use Rattle.std.proofs.Common.{◌∙◌, ap, ap₂, sym, arith, fold, min, get_or}
use Rattle.std.proofs.lemmas.List.{get_or_default, take_all}
use Rattle.std.proofs.lemmas.List.Sums.{fold_more}
use Rattle.cpa_effects.specs.Bounds.{next_of, sooner}
use Rattle.cpa_effects.proofs.SumLaws.{all-streams, next-small_at}
use Rattle.cpa_effects.proofs.bounds.next_event.Goals as goal

pub loop-k-init : goal.loop-k-init
loop-k-init c =
    record {
      least = c.delta_plus-least.ensures ∙ ap next_of (c.get.ensures ∙ get_or_default c.args.model.now 0 c.get.result (record { period = 0; jitter = 0; distance = 0 }) c.requires.some);
      few = omega (arith, c.delta_plus-least.ensures, next-small_at c.args.model.now 0 c.get.result c.requires c.requires.some c.get.ensures);
    }

pub loop-k-preserved : goal.loop-k-preserved
loop-k-preserved c =
    let start = next_of (get_or c.args.model.now 0 (record { period = 0; jitter = 0; distance = 0 })) in
    let more = fold_more sooner start c.args.model.now c.loop-k.k c.get-in-loop-k.result (omega (arith, c.loop-k-test.true, c.len-k-end.ensures.value)) in
    record {
      least = c.min-least.ensures ∙ ap₂ min c.loop-k.invariant.least (c.delta_plus.ensures ∙ ap next_of c.get-in-loop-k.ensures) ∙ sym more;
      few = omega (arith, c.min-least.ensures, c.loop-k.invariant.few);
    }

pub returns-clause-value : goal.returns-clause-value
returns-clause-value c =
    let start = next_of (get_or c.args.model.now 0 (record { period = 0; jitter = 0; distance = 0 })) in
    let all = take_all c.loop-k.k c.args.model.now (omega (arith, c.loop-k-test.false, c.len-k-end.ensures.value)) in
    c.loop-k.invariant.least ∙ ap (fold sooner start) all ∙ all-streams c.args.model.now (record { period = 0; jitter = 0; distance = 0 }) c.requires.some
