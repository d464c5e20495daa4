-- What a search over dirty resources looks for.
use Rattle.std.specs.Prelude.{ℕ, ◌≡◌, ◌≢◌, ◌<◌, ◌⊎◌, true, false, Bool, List, Option, Some, None, length, MatchOption}
use Rattle.cpa_units.specs.declared.bound.Bound.{Bound}
use Rattle.cpa_units.specs.Bounds.{bound_of}
use Rattle.cpa_units.specs.Sets.{holds}
use Rattle.cpa_model.specs.SystemLists.{SystemLists, task_at}
use Rattle.cpa_depend.specs.Cone.{Reads}
use Rattle.cpa_fix.specs.declared.readings.Reading.{Reading}
use Rattle.cpa_fix.specs.Readings.{reading_of, HasCleanReading}

-- two vectors differ for some task on q
abbrev pub DiffersOn : SystemLists → ℕ → List Bound → List Bound → Type 0
DiffersOn s q x y = (j : ℕ) × (j < length s.tasks) × ((task_at s j).res.0 ≡ q) × (bound_of x j ≢ bound_of y j)

-- two vectors have the same for each task on q
abbrev pub AgreeOn : SystemLists → ℕ → List Bound → List Bound → Type 0
AgreeOn s q x y = (j : ℕ) → j < length s.tasks → (task_at s j).res.0 ≡ q → bound_of x j ≡ bound_of y j

-- two vectors differ for some task on a resource that r reads
abbrev pub Differs : SystemLists → ℕ → List Bound → List Bound → Type 0
Differs s r x y = (j : ℕ) × (j < length s.tasks) × Reads s r (task_at s j).res.0 × (bound_of x j ≢ bound_of y j)

-- r has no reading, or one that isn't up to date: what it is for a resource to be dirty, with a task that shows it
abbrev pub IsStale : SystemLists → List (Option Reading) → List Bound → ℕ → Type 0
IsStale s kept x r =
    (reading_of kept r ≡ None) ⊎ ((reading : Reading) × (reading_of kept r ≡ Some reading) × Differs s r reading.seen x)

-- the members are the resources that are stale, and all others are clean
pub record IsStaleSet (s : SystemLists) (kept : List (Option Reading)) (x : List Bound) (set : List Bool) : Type 0 where
  pub some : (r : ℕ) × (holds set r ≡ true)
  pub stale : (r : ℕ) → holds set r ≡ true → (r < length s.resources) × IsStale s kept x r
  pub clean : (r : ℕ) → r < length s.resources → holds set r ≡ false → HasCleanReading s kept x r

-- the set of all stale resources; none where all are clean
abbrev pub AreStale : SystemLists → List (Option Reading) → List Bound → Option (List Bool) → Type 0
AreStale s kept x dirty =
    MatchOption dirty ((r : ℕ) → r < length s.resources → HasCleanReading s kept x r) (IsStaleSet s kept x)
