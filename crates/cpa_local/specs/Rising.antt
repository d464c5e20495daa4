-- What the analysis of a resource does to a vector.
use Rattle.std.specs.Prelude.{ℕ, ◌≡◌, ◌<◌, List, length}
use Rattle.cpa_units.specs.declared.bound.Bound.{Bound}
use Rattle.cpa_units.specs.Bounds.{IsAtMost, IsNowhereAbove, bound_of}
use Rattle.cpa_model.specs.SystemLists.{SystemLists, task_at}
use Rattle.cpa_local.specs.Inputs.{input}
use Rattle.cpa_local.specs.Local.{response}
use Rattle.cpa_local.specs.Solution.{IsVector, least_of}
use Rattle.cpa_local.specs.Trails.{Marks, IsKept, NewMarksAre, AreMarked}

-- the tasks on resources that `which` says
abbrev pub TasksOn : SystemLists → (ℕ → Type 0) → ℕ → Type 0
TasksOn s which i = (i < length s.tasks) × which (task_at s i).res.0

-- the vector is nowhere lower than before, and still one nowhere above the least solution
pub record IsRisen (s : SystemLists) (old new : List Bound) : Type 0 where
  pub vector : IsVector s new
  pub up : IsNowhereAbove old new
  pub below : IsNowhereAbove new (least_of s)

-- two vectors have the same for each task that isn't on r
abbrev pub AgreeOutside : SystemLists → ℕ → List Bound → List Bound → Type 0
AgreeOutside s r x y = (i : ℕ) → ((task_at s i).res.0 ≡ r → ⊥) → bound_of x i ≡ bound_of y i

-- the tasks of r were analysed, marked, and their bounds raised: at least to what they are at the vector before
pub record IsRaised (s : SystemLists) (r : ℕ) (old new : List Bound) (before after : Marks) : Type 0 where
  pub risen : IsRisen s old new
  pub others : AgreeOutside s r new old
  pub answered : (i : ℕ) → i < length s.tasks → (task_at s i).res.0 ≡ r → IsAtMost (response s old i) (bound_of new i)
  pub kept : IsKept before after
  pub fresh : NewMarksAre before after (TasksOn s (λ q. q ≡ r))
  pub marked : AreMarked after (TasksOn s (λ q. q ≡ r))

-- no bound on r bears on an input of a task on r
abbrev pub HasInputsApart : SystemLists → ℕ → Type 0
HasInputsApart s r = (x y : List Bound) → AgreeOutside s r x y → (i : ℕ) → (task_at s i).res.0 ≡ r → input s x i ≡ input s y i
