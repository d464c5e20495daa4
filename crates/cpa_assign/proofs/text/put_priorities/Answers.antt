use Rattle.std.proofs.Common.{◌<◌, ◌∙◌, length, arith}
use Rattle.cpa_model.specs.SystemLists.{places_of}
use Rattle.cpa_assign.proofs.NumberLaws.{task-there, line-added}
use Rattle.cpa_assign.proofs.PriorityLaws.{kth-few, kth-more}
use Rattle.cpa_assign.proofs.PlacingLaws.{order-long, places-long}
use Rattle.cpa_assign.proofs.text.put_priorities.Goals as goal

pub put_priority-requires : goal.put_priority-requires
put_priority-requires c =
    (task-there c.args.system.now c.args.res.0 c.args.order.now c.requires c.loop-k.k c.task.result c.task.ensures).0

pub kth_priority-number-requires-clause-there : goal.kth_priority-number-requires-clause-there
kth_priority-number-requires-clause-there c =
    omega (arith, c.loop-k-test.true, c.loop-k.auto.k-end, c.len-k-end.ensures, places-long c.args.order.now, order-long c.args.system.now c.args.res.0 (places_of c.args.order.now) c.requires)

pub loop-k-preserved : goal.loop-k-preserved
loop-k-preserved c =
    let s = c.args.system.now in
    let r = c.args.res.0 in
    let k = c.loop-k.k in
    let there : k < length (places_of c.args.order.now) = omega (arith, c.loop-k-test.true, c.loop-k.auto.k-end, c.len-k-end.ensures, places-long c.args.order.now) in
    let its = c.kth_priority-number.ensures in
    record {
      written = c.in_ok-put_priority.ensures
          ∙ line-added s r c.args.order.now c.requires k c.task.result c.task.ensures c.args.text.now c.loop-k.text c.kth_priority-number.result its c.loop-k.invariant.written;
      below = λ q less. let few = kth-few s r c.has_rules.ensures k q (omega (arith, less, its)) in omega (arith, few);
      reached = let more = kth-more s r c.has_rules.ensures k (omega (arith, there, order-long s r (places_of c.args.order.now) c.requires)) in rw its (omega (arith, more));
    }
