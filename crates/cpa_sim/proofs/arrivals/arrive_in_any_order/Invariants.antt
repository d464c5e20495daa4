use Rattle.std.proofs.Common.{◌≡◌, ◌-◌, ◌<◌, length, Some, None}
use Rattle.cpa_units.specs.declared.places.ResId.{ResId}
use Rattle.cpa_sim.specs.Arrivals.{AreGiven}
use Rattle.cpa_sim.proofs.ArrivalLaws.{upto_resource}
use Rattle.cpa_sim.proofs.SingleLaws.{ended_below}
use Rattle.cpa_sim.proofs.arrivals.arrive_in_any_order.Given as goal

abbrev pub invariant-resources : goal.invariant-resources
invariant-resources l = record {
  there : (res : ResId) → l.place ≡ Some res → res.0 < length l.initial.dispatches.items;
  given : AreGiven l.system l.places.items l.now (λ i. ended_below l.system l.initial.queues.items l.initial.dispatches.items i (upto_resource (length l.initial.dispatches.items) l.place)) l.initial.queues.items l.initial.dispatches.items l.queues.items l.dispatches.items;
}

abbrev pub decreases-resources : goal.decreases-resources
decreases-resources l = elim l.place [ None ↦ 0 | Some res ↦ length l.initial.dispatches.items - res.0 ]
