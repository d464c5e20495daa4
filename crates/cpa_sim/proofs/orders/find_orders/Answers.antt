use Rattle.std.proofs.Common.{◌∙◌, ◌∷◌, [], ◌+◌, List, map, length, ap, subst, sym}
use Rattle.std.proofs.lemmas.List.{length_push, map-append}
use Rattle.cpa_units.specs.declared.places.TaskId.{TaskId}
use Rattle.cpa_model.specs.SystemLists.{places_of}
use Rattle.cpa_sched.specs.Urgency.{IsByUrgency}
use Rattle.cpa_sim.specs.Arrivals.{listed}
use Rattle.cpa_sim.proofs.PlaceLaws.{push-more}
use Rattle.cpa_sim.proofs.orders.find_orders.Goals as goal

pub loop-k-preserved : goal.loop-k-preserved
loop-k-preserved c =
    let s = c.args.system.now in
    let k = c.loop-k.k in
    let orders = c.loop-k.orders.items in
    let order = c.in_ok-order.order in
    let e = ap (map (λ v. v.items)) c.in_ok-push.ensures.items ∙ map-append (λ v. v.items) orders (order ∷ []) in
    record {
      count = ap length e ∙ (length_push (map (λ v. v.items) orders) order.items ∙ ap (λ n. n + 1) c.loop-k.invariant.count);
      by_urgency = λ r less. subst (λ lists. IsByUrgency s r (places_of (listed lists r))) (sym e)
          (push-more (λ r (ts : List TaskId). IsByUrgency s r (places_of ts)) (map (λ v. v.items) orders) k order.items [] c.loop-k.invariant.count c.loop-k.invariant.by_urgency c.in_ok-order.ensures r less);
    }
