-- What the other tasks of a resource ask of it in a window.
use Rattle.std.specs.Prelude.{ℕ, zero, suc, ◌*◌, ◌≤◌, ◌<◌, ◌≡◌, Bool, Option, Some, None, is_none, List, [], ◌∷◌, length, All, sum_by}
use Rattle.std.specs.List.{list_any}
use Rattle.std.specs.Option.{ForSome}
use Rattle.cpa_units.specs.declared.bound.Bound.{Bound}
use Rattle.cpa_units.specs.declared.bound.Bound.TheVariants.{Within, Overload}
use Rattle.cpa_units.specs.declared.limits.TheConstants.{MAX_EXECUTION, MAX_LIMIT, MAX_TASKS}
use Rattle.cpa_units.specs.Bounds.{IsAtMost, bound_times, sum_bounds}
use Rattle.cpa_events.specs.Events.{Model}
use Rattle.cpa_events.specs.Events.{eta_plus, IsModel, IsModelInRange, IsNoDenser}
use Rattle.cpa_window.specs.declared.rivals.Rival.{Rival}

-- a rival whose numbers are within the limits
pub record IsRival (r : Rival) : Type 0 where
  pub model : ForSome r.model IsModelInRange
  pub worst : r.worst ≤ MAX_EXECUTION
  pub slot : r.slot ≤ MAX_EXECUTION
  pub bound : (number : ℕ) → r.bound ≡ Within number → number ≤ MAX_LIMIT

-- the rivals of one task
pub record AreRivals (rivals : List Rival) : Type 0 where
  pub few : length rivals < MAX_TASKS
  pub each : All IsRival rivals

-- the most events of an input in a window; those of an unbounded one are above every number, unless the window has no
-- length
abbrev pub events_in : Option Model → ℕ → Bound
events_in (Some m) window = Within (eta_plus m window)
events_in None zero = Within 0
events_in None (suc window) = Overload

-- the work that rivals bring in a window: of each its events, and its greatest execution for each (Richter)
abbrev pub work_in : List Rival → ℕ → Bound
work_in rivals window = sum_bounds (λ r. bound_times (events_in r.model window) r.worst) rivals

-- some rival's input is unbounded
abbrev pub some_unbounded : List Rival → Bool
some_unbounded rivals = list_any (λ r. is_none r.model) rivals

-- the most events of an input that is bounded
abbrev pub bounded_events : Option Model → ℕ → ℕ
bounded_events (Some m) window = eta_plus m window
bounded_events None window = 0

-- the work of one rival in a window, where its input is bounded
abbrev pub rival_work : ℕ → Rival → ℕ
rival_work window r = bounded_events r.model window * r.worst

-- the work of rivals in a window, where all their inputs are bounded
abbrev pub bounded_work : List Rival → ℕ → ℕ
bounded_work rivals window = sum_by (rival_work window) rivals

-- windows from one length to another have the same work
pub record IsConstant (work : ℕ → ℕ) (from until : ℕ) : Type 0 where
  pub same : (w : ℕ) → from ≤ w → w ≤ until → work w ≡ work from

-- what each input keeps
abbrev pub IsInput : Option Model → Type 0
IsInput (Some m) = IsModel m
IsInput None = Unit {0}

-- an input of the second kind may have at least the events of the first; none is more than an unbounded one
abbrev pub IsInputNoDenser : Option Model → Option Model → Type 0
IsInputNoDenser a None = Unit {0}
IsInputNoDenser (Some m) (Some n) = IsNoDenser m n
IsInputNoDenser None (Some n) = ⊥

-- the second rival asks for at least as much as the first
pub record IsNoHeavier (r s : Rival) : Type 0 where
  pub model : IsInputNoDenser r.model s.model
  pub worst : r.worst ≤ s.worst
  pub slot : r.slot ≡ s.slot
  pub bound : IsAtMost r.bound s.bound

-- rival by rival; the second list may have more at its end
abbrev pub AreNoHeavier : List Rival → List Rival → Type 0
AreNoHeavier [] ss = Unit {0}
AreNoHeavier (r ∷ rs) [] = ⊥
AreNoHeavier (r ∷ rs) (s ∷ ss) = IsNoHeavier r s × AreNoHeavier rs ss
