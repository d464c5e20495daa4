-- Closed vectors, and the least of them.
use Rattle.std.specs.Prelude.{ℕ, zero, suc, ◌+◌, ◌≡◌, ◌<◌, List, map, length, replicate, sum_by}
use Rattle.cpa_units.specs.declared.bound.Bound.{Bound}
use Rattle.cpa_units.specs.declared.bound.Bound.TheVariants.{Within}
use Rattle.cpa_units.specs.declared.limits.TheConstants.{MAX_LIMIT}
use Rattle.cpa_units.specs.Bounds.{IsAtMost, RespectsLimit, IsNowhereAbove, bound_of}
use Rattle.cpa_model.specs.SystemLists.{SystemLists, task_at, resource_of, task_places}
use Rattle.cpa_local.specs.Local.{responses}

-- a vector of the system: a bound per task, none below the task's least execution, no number past the greatest
pub record IsVector (s : SystemLists) (x : List Bound) : Type 0 where
  pub long : length x ≡ length s.tasks
  pub low : (i : ℕ) → i < length s.tasks → IsAtMost (Within (task_at s i).best) (bound_of x i)
  pub high : (i : ℕ) → i < length s.tasks → RespectsLimit MAX_LIMIT (bound_of x i)

-- each task's least execution
abbrev pub floor_of : SystemLists → List Bound
floor_of s = map (λ i. Within (task_at s i).best) (task_places s)

-- no task answers later than the vector says, if no other does
abbrev pub IsClosed : SystemLists → List Bound → Type 0
IsClosed s x = IsNowhereAbove (responses s x) x

-- The least solution: the closed vector that is nowhere above any closed vector. By Knaster and Tarski there is exactly
-- one, since no bound falls where a vector rises.
pub record IsLeast (s : SystemLists) (x : List Bound) : Type 0 where
  pub vector : IsVector s x
  pub closed : IsClosed s x
  pub least : (y : List Bound) → IsVector s y → IsClosed s y → IsNowhereAbove x y

-- the vector after so many rounds of analyses, from nothing
unfoldable pub round : SystemLists → ℕ → List Bound
round s zero = replicate (length s.tasks) (Within 0)
round s (suc n) = responses s (round s n)

-- how often the bounds of a system can rise: each from 0 to its resource's limit, and once more to overload
unfoldable pub height : SystemLists → ℕ
height s = sum_by (λ i. (resource_of s i).limit + 1) (task_places s)

-- the least solution as a function: after so many rounds nothing rises any more, as in Kleene's fixed-point theorem
unfoldable pub least_of : SystemLists → List Bound
least_of s = round s (height s + 2)
