-- Rounds: where one may start, and what it does.
use Rattle.std.specs.Prelude.{ℕ, ◌≡◌, ◌<◌, ◌≤◌, Bool, true, false, List, Option, Some, length}
use Rattle.cpa_units.specs.declared.bound.Bound.{Bound}
use Rattle.cpa_units.specs.Bounds.{IsNowhereAbove, bound_of}
use Rattle.cpa_model.specs.SystemLists.{SystemLists, task_at, resource_at}
use Rattle.cpa_model.specs.Kinds.{has_feedback}
use Rattle.cpa_local.specs.Solution.{IsVector, least_of}
use Rattle.cpa_local.specs.Trails.{Marks}
use Rattle.cpa_depend.specs.Cone.{LeadsBack}
use Rattle.cpa_fix.specs.declared.readings.Reading.{Reading}
use Rattle.cpa_fix.specs.Readings.{reading_of, AreSound}

-- where a round or a search may start: at a vector nowhere above the least solution, with sound readings and a trail that
-- has room
pub record MayStart (s : SystemLists) (x : List Bound) (kept : List (Option Reading)) (trail : Marks) : Type 0 where
  pub vector : IsVector s x
  pub below : IsNowhereAbove x (least_of s)
  pub sound : AreSound s kept x
  pub room : length s.tasks ≤ trail.room

-- a whole round over the resources that `dirty` says
pub record IsRound (s : SystemLists) (dirty : ℕ → Bool) (old new : List Bound) (before after : List (Option Reading)) : Type 0 where
  -- bounds on other resources are as before
  pub others : (i : ℕ) → i < length s.tasks → dirty (task_at s i).res.0 ≡ false → bound_of new i ≡ bound_of old i
  -- all readings are sound
  pub sound : AreSound s after new
  -- each dirty resource has a reading that is nowhere below the old vector
  pub fresh : (r : ℕ) → dirty r ≡ true → (reading : Reading) × (reading_of after r ≡ Some reading) × IsNowhereAbove old reading.seen
  -- the readings of other resources are as before
  pub same : (r : ℕ) → dirty r ≡ false → reading_of after r ≡ reading_of before r

-- the bounds on r don't bear on its own analysis: neither by its kind, nor since one of its tasks leads to another
pub record HasNoFeedback (s : SystemLists) (r : ℕ) : Type 0 where
  pub turns : has_feedback (resource_at s r).kind ≡ false
  pub chains : LeadsBack s r → ⊥
