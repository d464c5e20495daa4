use Rattle.std.proofs.Common.{◌≡◌, ◌<◌, ℕ, get_or}
use Rattle.cpa_model.specs.SystemLists.{places_of}
use Rattle.cpa_sim.proofs.orders.place_in.Given as goal

abbrev pub invariant-loop-k : goal.invariant-loop-k
invariant-loop-k l = (p : ℕ) → p < l.k → get_or (places_of l.order) p 0 ≡ l.task.0 → ⊥
