-- Readings: the vectors at which resources were analysed, and what is clean by them. A resource needs no further analysis
-- until something that it reads rises, as in the global iteration of SymTA/S and pyCPA.
use Rattle.std.specs.Prelude.{ℕ, ◌≡◌, ◌<◌, Bool, false, List, Option, Some, None, length, slice_index_or}
use Rattle.cpa_units.specs.declared.bound.Bound.{Bound}
use Rattle.cpa_units.specs.Bounds.{IsAtMost, IsNowhereAbove, bound_of}
use Rattle.cpa_units.specs.Sets.{holds}
use Rattle.cpa_model.specs.SystemLists.{SystemLists, task_at}
use Rattle.cpa_local.specs.Local.{response}
use Rattle.cpa_local.specs.Solution.{IsVector, least_of}
use Rattle.cpa_depend.specs.Cone.{Reads}
use Rattle.cpa_fix.specs.declared.readings.Reading.{Reading}

-- the vector `seen` at which resource r was analysed is sound at x: it is nowhere above x, and neither are the bounds that
-- r's tasks have at it
pub record IsSound (s : SystemLists) (r : ℕ) (seen x : List Bound) : Type 0 where
  pub vector : IsVector s seen
  pub below : IsNowhereAbove seen x
  pub answered : (i : ℕ) → i < length s.tasks → (task_at s i).res.0 ≡ r → IsAtMost (response s seen i) (bound_of x i)

-- two vectors have the same for each task on a resource that r reads
abbrev pub AgreeOnReads : SystemLists → ℕ → List Bound → List Bound → Type 0
AgreeOnReads s r x y = (j : ℕ) → Reads s r (task_at s j).res.0 → bound_of x j ≡ bound_of y j

-- it is sound at x and up to date: it has the bounds of x wherever r reads
pub record IsClean (s : SystemLists) (r : ℕ) (seen x : List Bound) : Type 0 where
  pub sound : IsSound s r seen x
  pub current : AgreeOnReads s r seen x

-- the reading of a resource that is kept, if there is one
abbrev pub reading_of : List (Option Reading) → ℕ → Option Reading
reading_of kept r = slice_index_or kept r None

-- readings of this system, each sound at x
pub record AreSound (s : SystemLists) (kept : List (Option Reading)) (x : List Bound) : Type 0 where
  pub long : length kept ≡ length s.resources
  pub sound : (r : ℕ) (reading : Reading) → reading_of kept r ≡ Some reading → IsSound s r reading.seen x

-- r is clean at x: it has a sound reading that is up to date
abbrev pub HasCleanReading : SystemLists → List (Option Reading) → List Bound → ℕ → Type 0
HasCleanReading s kept x r =
    (reading : Reading) × (reading_of kept r ≡ Some reading) × IsClean s r reading.seen x

-- all resources that aren't members are clean at x
abbrev pub AreCleanBeyond : SystemLists → List (Option Reading) → List Bound → List Bool → Type 0
AreCleanBeyond s kept x reach = (r : ℕ) → r < length s.resources → holds reach r ≡ false → HasCleanReading s kept x r

-- the readings of all resources that aren't members are as they were
abbrev pub AreKeptBeyond : List (Option Reading) → List (Option Reading) → List Bool → Type 0
AreKeptBeyond old new reach = (r : ℕ) → holds reach r ≡ false → reading_of new r ≡ reading_of old r

-- r is a resource that is dirty at x
abbrev pub IsDirty : SystemLists → List (Option Reading) → List Bound → ℕ → Type 0
IsDirty s kept x r = (r < length s.resources) × (HasCleanReading s kept x r → ⊥)

-- the least solution, with each resource clean
pub record IsSolved (s : SystemLists) (x : List Bound) (kept : List (Option Reading)) : Type 0 where
  pub least : x ≡ least_of s
  pub sound : AreSound s kept x
  pub clean : (r : ℕ) → r < length s.resources → HasCleanReading s kept x r
