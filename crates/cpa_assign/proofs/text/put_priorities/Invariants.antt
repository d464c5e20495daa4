use Rattle.std.proofs.Common.{◌≡◌, ◌<◌, ◌≤◌, ◌++◌, ℕ, take}
use Rattle.cpa_model.specs.SystemLists.{places_of}
use Rattle.cpa_assign.specs.Orders.{number_up_to}
use Rattle.cpa_assign.specs.OrderText.{new_priority, priority_line}
use Rattle.std.specs.List.{flat_map}
use Rattle.cpa_assign.proofs.text.put_priorities.Given as goal

abbrev pub invariant-loop-k : goal.invariant-loop-k
invariant-loop-k l = record {
  written : l.text ≡ l.initial.text ++ flat_map (λ i. priority_line l.system i (new_priority l.system l.fn.res.0 (places_of l.order) i)) (take l.k (places_of l.order));
  below : (q : ℕ) → q < l.number → number_up_to l.system l.fn.res.0 q ≤ l.k;
  reached : l.k ≤ number_up_to l.system l.fn.res.0 l.number;
}
