use Rattle.std.proofs.Common.{◌<◌, ◌+◌, ◌*◌, ◌∙◌, ap, sym, take, length, arith}
use Rattle.cpa_units.specs.declared.limits.TheConstants.{MAX_LIMIT}
use Rattle.cpa_units.specs.declared.places.TaskId.{TaskId}
use Rattle.cpa_units.specs.Bounds.{RespectsLimit, bound_of, bound_plus, sum_bounds}
use Rattle.cpa_local.proofs.VectorLaws.{weaker_limit}
use Rattle.cpa_local.proofs.PathLaws.{sum_bounds-more, plus-limit, all-get}
use Rattle.cpa_local.proofs.paths.sum_worst.Goals as goal

pub loop-k-preserved : goal.loop-k-preserved
loop-k-preserved c =
    let more = sum_bounds-more (λ (i : TaskId). bound_of c.args.x.now i.0) c.args.tasks.now c.loop-k.k c.get.result c.get.ensures in
    let there = all-get (λ (i : TaskId). i.0 < length c.args.system.now.tasks) c.args.tasks.now c.loop-k.k c.get.result c.get.ensures c.requires.there in
    let high : RespectsLimit MAX_LIMIT c.get-in-loop-k.result = rw c.get-in-loop-k.ensures (c.requires.vector.high c.get.result.0 there) in
    record {
      sum = c.plus-sum.ensures ∙ ap (λ b. bound_plus b c.get-in-loop-k.result) c.loop-k.invariant.sum
          ∙ ap (bound_plus (sum_bounds (λ (i : TaskId). bound_of c.args.x.now i.0) (take c.loop-k.k c.args.tasks.now))) c.get-in-loop-k.ensures ∙ sym more;
      small = rw c.plus-sum.ensures (weaker_limit (c.loop-k.k * MAX_LIMIT + MAX_LIMIT) ((c.loop-k.k + 1) * MAX_LIMIT) _ (omega arith) (plus-limit (c.loop-k.k * MAX_LIMIT) MAX_LIMIT c.loop-k.sum c.get-in-loop-k.result c.loop-k.invariant.small high));
    }
