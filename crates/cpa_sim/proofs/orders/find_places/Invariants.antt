use Rattle.std.proofs.Common.{◌≡◌, ◌<◌, ℕ, length, map, get_or}
use Rattle.cpa_model.specs.SystemLists.{task_at, places_of}
use Rattle.cpa_sim.specs.Arrivals.{listed}
use Rattle.cpa_sim.specs.Orders.{IsPlace}
use Rattle.cpa_sim.proofs.orders.find_places.Given as goal

abbrev pub invariant-loop-k : goal.invariant-loop-k
invariant-loop-k l = record {
  count : length l.places.items ≡ l.k;
  found : (i : ℕ) → i < l.k → (p : ℕ) → p < length (places_of (listed (map (λ v. v.items) l.orders.items) (task_at l.system i).res.0)) → get_or (places_of (listed (map (λ v. v.items) l.orders.items) (task_at l.system i).res.0)) p 0 ≡ i
      → IsPlace (places_of (listed (map (λ v. v.items) l.orders.items) (task_at l.system i).res.0)) (get_or l.places.items i 0) p;
}
