-- What searches for the least solution stand on, as the public functions of the crate state it.
use Rattle.std.specs.Prelude.{◌≡◌, ◌<◌, ℕ, List, length}
use Rattle.cpa_units.specs.declared.bound.Bound.{Bound}
use Rattle.cpa_units.specs.Bounds.{IsNowhereAbove}
use Rattle.cpa_model.specs.SystemLists.{SystemLists, task_at}
use Rattle.cpa_model.specs.Rules.{IsSystem}
use Rattle.cpa_local.specs.Local.{response}
use Rattle.cpa_local.specs.Solution.{IsVector, least_of}
use Rattle.cpa_fix.specs.Readings.{AgreeOnReads, IsClean}
use Rattle.cpa_local.specs.Rising.{AgreeOutside}
use Rattle.cpa_fix.specs.Rounds.{HasNoFeedback}

-- the bounds on a resource depend on the bounds of tasks on resources that it reads, and on no others
abbrev pub BoundsDependOnReads : Type 0
BoundsDependOnReads =
    (s : SystemLists) (x y : List Bound) (r : ℕ) → AgreeOnReads s r x y →
    (i : ℕ) → (task_at s i).res.0 ≡ r → response s x i ≡ response s y i

-- without feedback not even on those of its own tasks
abbrev pub BoundsWithoutFeedback : Type 0
BoundsWithoutFeedback =
    (s : SystemLists) (x y : List Bound) (r : ℕ) → HasNoFeedback s r → AgreeOutside s r x y →
    (i : ℕ) → (task_at s i).res.0 ≡ r → response s x i ≡ response s y i

-- a vector nowhere above the least solution, at which each resource is clean, is the least solution
abbrev pub CleanIsLeast : Type 0
CleanIsLeast =
    (s : SystemLists) (x : List Bound) → IsSystem s → IsVector s x → IsNowhereAbove x (least_of s) →
    ((r : ℕ) → r < length s.resources → (seen : List Bound) × IsClean s r seen x) → x ≡ least_of s
