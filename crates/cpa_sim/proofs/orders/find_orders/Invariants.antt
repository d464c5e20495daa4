use Rattle.std.proofs.Common.{◌≡◌, ◌<◌, ℕ, length, map}
use Rattle.cpa_model.specs.SystemLists.{places_of}
use Rattle.cpa_sched.specs.Urgency.{IsByUrgency}
use Rattle.cpa_sim.specs.Arrivals.{listed}
use Rattle.cpa_sim.proofs.orders.find_orders.Given as goal

abbrev pub invariant-loop-k : goal.invariant-loop-k
invariant-loop-k l = record {
  count : length (map (λ w. w.items) l.orders.items) ≡ l.k;
  by_urgency : (r : ℕ) → r < l.k → IsByUrgency l.system r (places_of (listed (map (λ w. w.items) l.orders.items) r));
}
