use Rattle.std.proofs.Common.{◌≡◌, ◌-◌, ◌<◌, length, Some, None, option_map}
use Rattle.cpa_units.specs.declared.places.ResId.{ResId}
use Rattle.cpa_model.specs.SystemLists.{place_of}
use Rattle.cpa_sim.proofs.ArrivalLaws.{IsFirstEnd, upto_resource}
use Rattle.cpa_sim.proofs.arrivals.next_end.Given as goal

abbrev pub invariant-resources : goal.invariant-resources
invariant-resources l = record {
  there : (res : ResId) → l.place ≡ Some res → res.0 < length l.dispatches;
  found : IsFirstEnd l.dispatches l.from (upto_resource (length l.dispatches) l.place) (option_map place_of l.next);
}

abbrev pub decreases-resources : goal.decreases-resources
decreases-resources l = elim l.place [ None ↦ 0 | Some res ↦ length l.dispatches - res.0 ]
