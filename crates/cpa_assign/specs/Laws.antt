-- What orders mean, and what Audsley's argument stands on.
use Rattle.std.specs.Prelude.{ℕ, ◌≡◌, ◌<◌, Bool, true, Option, List, length}
use Rattle.cpa_units.specs.declared.places.TaskId.{TaskId}
use Rattle.cpa_units.specs.Bounds.{IsAtMost}
use Rattle.cpa_model.specs.SystemLists.{SystemLists, resource_at}
use Rattle.cpa_model.specs.Rules.{IsSystem}
use Rattle.cpa_model.specs.Kinds.{HasPriorities}
use Rattle.cpa_assign.specs.Orders.{IsOrder, IsOrderOf, IsOrderable, with_order}
use Rattle.cpa_assign.specs.Placing.{placed_bound}

-- where tasks move from above a task to below it, its bound doesn't rise
abbrev pub FewerAboveIsNoWorse : Type 0
FewerAboveIsNoWorse =
    (s : SystemLists) (r i : ℕ) (fewer above : ℕ → Bool) → IsSystem s → i < length s.tasks → ((j : ℕ) → fewer j ≡ true → above j ≡ true)
    → IsAtMost (placed_bound s r fewer i) (placed_bound s r above i)

-- a system with an order of one of its resources is a system
abbrev pub OrderKeepsRules : Type 0
OrderKeepsRules =
    (s : SystemLists) (r : ℕ) (o : List ℕ) → IsSystem s → HasPriorities (resource_at s r).kind → IsOrder s r o → IsSystem (with_order s r o)

-- a resource that can be given an order has an answer
abbrev pub OrdersAreDecided : Type 0
OrdersAreDecided = (s : SystemLists) (r : ℕ) → IsSystem s → IsOrderable s r → (it : Option (List TaskId)) × IsOrderOf s r it

-- and it is the only one
abbrev pub BestOrderIsOne : Type 0
BestOrderIsOne = (s : SystemLists) (r : ℕ) (it other : Option (List TaskId)) → IsOrderOf s r it → IsOrderOf s r other → it ≡ other
