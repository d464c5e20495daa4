-- How much longer a task may take while all deadlines of paths are met, as in the sensitivity analysis of SymTA/S.
use Rattle.std.specs.Prelude.{ℕ, ◌+◌, ◌<◌, ◌≤◌, ◌≡◌, ◌↔◌, Bool, IsTrue, List, length}
use Rattle.std.specs.Option.{ForSome}
use Rattle.cpa_units.specs.declared.bound.Bound.{Bound}
use Rattle.cpa_units.specs.declared.bound.Bound.TheVariants.{Within}
use Rattle.cpa_units.specs.Sizes.{most_execution}
use Rattle.cpa_units.specs.Bounds.{IsAtMost}
use Rattle.cpa_model.specs.declared.entries.Path.{Path}
use Rattle.cpa_model.specs.SystemLists.{SystemLists, task_at, path_at}
use Rattle.cpa_model.specs.Changes.{with_exec}
use Rattle.cpa_local.specs.Solution.{least_of}
use Rattle.cpa_local.specs.Paths.{path_worst}
use Rattle.cpa_slack.specs.declared.slack.Slack.{Slack}
use Rattle.cpa_slack.specs.declared.slack.Slack.TheVariants.{Missed, Add}

-- the system in which task i may take so much longer
abbrev pub longer : SystemLists → ℕ → ℕ → SystemLists
longer s i k = with_exec s i (task_at s i).best ((task_at s i).worst + k)

-- a system that is another but for how much longer task i may take
abbrev pub IsLonger : SystemLists → ℕ → SystemLists → Type 0
IsLonger s i t = (k : ℕ) × (t ≡ longer s i k)

-- by these bounds a path takes at most its deadline, if it has one
abbrev pub HoldsPath : List Bound → Path → Type 0
HoldsPath x p = ForSome p.deadline (λ d. IsAtMost (path_worst x p) (Within d))

-- each path does
abbrev pub HoldsAt : SystemLists → List Bound → Type 0
HoldsAt s x = (k : ℕ) → k < length s.paths → HoldsPath x (path_at s k)

-- each path does in the least solution
abbrev pub Holds : SystemLists → Type 0
Holds s = HoldsAt s (least_of s)

-- up to so many ticks more all holds, and with more, up to a number, it doesn't
pub record IsMostUpTo (s : SystemLists) (i up_to ticks : ℕ) : Type 0 where
  pub some : ticks ≤ up_to
  pub holds : (k : ℕ) → k ≤ ticks → Holds (longer s i k)
  pub most : (k : ℕ) → ticks < k → k ≤ up_to → ¬ Holds (longer s i k)

-- so many ticks more are the most: up to them all holds, and beyond them, as far as an execution may grow, it doesn't; the
-- limit is reached where the execution is then the greatest of a system of this size
pub record IsMost (s : SystemLists) (i ticks : ℕ) (limit : Bool) : Type 0 where
  pub in_range : (task_at s i).worst + ticks ≤ most_execution s.size
  pub holds : (k : ℕ) → k ≤ ticks → Holds (longer s i k)
  pub most : (k : ℕ) → ticks < k → (task_at s i).worst + k ≤ most_execution s.size → ¬ Holds (longer s i k)
  pub at_limit : IsTrue limit ↔ ((task_at s i).worst + ticks ≡ most_execution s.size)

-- what is answered of a task
abbrev pub IsSlack : SystemLists → ℕ → Slack → Type 0
IsSlack s i Missed = ¬ Holds s
IsSlack s i (Add ticks limit) = Holds s × IsMost s i ticks limit
