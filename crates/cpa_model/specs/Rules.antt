-- The rules that every system keeps.
use Rattle.std.specs.Prelude.{◌≡◌, true, false, is_some, ◌≢◌, ℕ, ◌+◌, ◌≤◌, ◌<◌, List, [], ◌++◌, map, length, IsSome, slice_index_or, All}
use Rattle.std.specs.List.{AllPairs}
use Rattle.std.specs.Option.{ForSome}
use Rattle.cpa_units.specs.declared.limits.TheConstants.{MAX_RESOURCES, MAX_SOURCES, MAX_TASKS, MAX_PATHS, MAX_PERIOD, MAX_JITTER, MAX_EXECUTION, MAX_GAP, MAX_BIT, MAX_LIMIT, MAX_PRIORITY, MAX_CHAIN}
use Rattle.cpa_units.specs.Name.{is_name}
use Rattle.cpa_units.specs.declared.limits.Size.{Size}
use Rattle.cpa_units.specs.Sizes.{most_resources, most_sources, most_tasks, most_paths, most_execution, most_region, most_gap, most_limit}
use Rattle.cpa_units.specs.declared.places.TaskId.{TaskId}
use Rattle.cpa_draft.specs.Refusals.{kind_fits, sporadic_fits, clock_fits, has_clock_name}
use Rattle.cpa_draft.specs.Clocks.{is_too_long}
use Rattle.cpa_model.specs.declared.entries.Resource.{Resource}
use Rattle.cpa_model.specs.declared.entries.Source.{Source}
use Rattle.cpa_model.specs.declared.entries.Task.{Task}
use Rattle.cpa_model.specs.declared.entries.Path.{Path}
use Rattle.cpa_model.specs.declared.entries.Kind.{Kind}
use Rattle.cpa_model.specs.declared.entries.Kind.TheVariants as kind
use Rattle.cpa_model.specs.declared.entries.Turn.{Turn}
use Rattle.cpa_model.specs.declared.entries.Turn.TheVariants as turn
use Rattle.cpa_model.specs.declared.entries.Activator.{Activator}
use Rattle.cpa_model.specs.declared.entries.Activator.TheVariants as activator
use Rattle.cpa_model.specs.Chains.{depth_within, activators}
use Rattle.cpa_model.specs.SystemLists.{SystemLists, resource_at, is_activated_by, streams_of, slot_of, gap_of}
use Rattle.cpa_model.specs.Kinds.{is_later_kind}
use Rattle.cpa_model.specs.Locks.{uses_lock, HoldsWhole}
use Rattle.cpa_model.specs.declared.locks.CriticalSection.{CriticalSection}
use Rattle.cpa_draft.specs.declared.draft.TheConstants.{MAX_SECTIONS}
use Rattle.cpa_model.specs.Clocks.{clock_name, clock_periods}
use Rattle.cpa_events.specs.declared.TheConstants.{MAX_STREAMS}

-- the extra number of a kind is in its range
abbrev pub KindFits : Kind → Type 0
KindFits (kind.Tdma gap) = gap ≤ MAX_GAP
KindFits (kind.Can bit) = (1 ≤ bit) × (bit ≤ MAX_BIT)
KindFits _ = Unit {0}

pub record IsResource (r : Resource) : Type 0 where
  pub some_limit : 1 ≤ r.limit
  pub limit : r.limit ≤ MAX_LIMIT
  pub kind_fits : KindFits r.kind

pub record IsSource (r : Source) : Type 0 where
  pub some_period : 1 ≤ r.period
  pub period : r.period ≤ MAX_PERIOD
  pub jitter : r.jitter ≤ MAX_JITTER
  pub distance : r.distance ≤ r.period
  pub offset : ForSome r.on_clock (λ o. o.offset < r.period)

-- an activator is in the lists
abbrev pub IsActivator : SystemLists → Activator → Type 0
IsActivator s (activator.Source k) = k.0 < length s.sources
IsActivator s (activator.Task j) = j.0 < length s.tasks

-- a turn is of the sort that the kind wants, and in its range
abbrev pub TurnFits : Kind → Turn → Type 0
TurnFits kind.Preemptive (turn.Priority number) = number ≤ MAX_PRIORITY
TurnFits (kind.Can bit) (turn.Priority number) = number ≤ MAX_PRIORITY
TurnFits kind.Ceiling (turn.Priority number) = number ≤ MAX_PRIORITY
TurnFits kind.RoundRobin (turn.Slot ticks) = (1 ≤ ticks) × (ticks ≤ MAX_EXECUTION)
TurnFits (kind.Tdma gap) (turn.Slot ticks) = (1 ≤ ticks) × (ticks ≤ MAX_EXECUTION)
TurnFits kind.Fifo turn.Queued = Unit {0}
TurnFits _ _ = ⊥

-- a region is in its range; only under preemptive priority and under ceilings is it more than a tick
abbrev pub RegionFits : Kind → ℕ → Type 0
RegionFits kind.Preemptive ticks = (1 ≤ ticks) × (ticks ≤ MAX_EXECUTION)
RegionFits kind.Ceiling ticks = (1 ≤ ticks) × (ticks ≤ MAX_EXECUTION)
RegionFits _ ticks = ticks ≡ 1

-- a critical section has a name of a lock, and its numbers are in their ranges
pub record IsSection (c : CriticalSection) : Type 0 where
  pub named : is_name c.lock ≡ true
  pub start : c.start ≤ MAX_EXECUTION
  pub some : 1 ≤ c.length
  pub length : c.length ≤ MAX_EXECUTION

-- a task has few critical sections, which nest or are apart, and no regions of more than a tick beside them
pub record AreSections (region : ℕ) (locks : List CriticalSection) : Type 0 where
  pub sections : All IsSection locks
  pub few : length locks ≤ MAX_SECTIONS
  pub alone : 0 < length locks → region ≡ 1
  pub nested : All (λ x. All (HoldsWhole x) locks) locks

-- only under ceilings has a task critical sections
abbrev pub LocksFit : Kind → ℕ → List CriticalSection → Type 0
LocksFit kind.Ceiling region locks = AreSections region locks
LocksFit _ region locks = locks ≡ []

pub record IsTask (s : SystemLists) (t : Task) : Type 0 where
  pub placed : t.res.0 < length s.resources
  pub some : 0 < length t.after
  pub activated : All (IsActivator s) t.after
  pub different : AllPairs (λ a b. a ≢ b) t.after
  pub some_best : 1 ≤ t.best
  pub ordered : t.best ≤ t.worst
  pub worst : t.worst ≤ MAX_EXECUTION
  pub turn_fits : TurnFits (resource_at s t.res.0).kind t.turn
  pub region_fits : RegionFits (resource_at s t.res.0).kind t.region
  pub locks_fit : LocksFit (resource_at s t.res.0).kind t.region t.locks

-- each task of a path is among the activators of the next
abbrev pub IsLinked : SystemLists → List TaskId → Type 0
IsLinked s ts = (k : ℕ) → k + 1 < length ts
    → is_activated_by s (slice_index_or ts k (record { 0 = 0 })).0 (slice_index_or ts (k + 1) (record { 0 = 0 })).0 ≡ true

pub record IsPath (s : SystemLists) (p : Path) : Type 0 where
  pub some : 0 < length p.tasks
  pub there : All (λ (t : TaskId). t.0 < length s.tasks) p.tasks
  pub linked : IsLinked s p.tasks
  pub deadline : ForSome p.deadline (λ d. (1 ≤ d) × (d ≤ MAX_PERIOD))

-- the numbers of an entry are no greater than the size of its system allows
abbrev pub IsSizedResource : Size → Resource → Type 0
IsSizedResource z r = (r.limit ≤ most_limit z) × (gap_of r.kind ≤ most_gap z) × (kind_fits z (is_later_kind r.kind) ≡ true)

abbrev pub IsSizedSource : Size → Source → Type 0
IsSizedSource z r = (sporadic_fits z r.sporadic ≡ true) × (clock_fits z (is_some r.on_clock) ≡ true)

-- the clock of a source has a short cycle, with few events
abbrev pub HasShortClock : SystemLists → Source → Type 0
HasShortClock s r = ForSome r.on_clock (λ o. is_too_long (clock_periods s o.clock) ≡ false)

pub record IsSizedTask (z : Size) (t : Task) : Type 0 where
  pub worst : t.worst ≤ most_execution z
  pub slot : slot_of t.turn ≤ most_execution z
  pub region : t.region ≤ most_region z

-- a system has no more entries than its size allows, and no greater numbers
pub record IsSized (s : SystemLists) : Type 0 where
  pub resources : length s.resources ≤ most_resources s.size
  pub sources : length s.sources ≤ most_sources s.size
  pub tasks : length s.tasks ≤ most_tasks s.size
  pub paths : length s.paths ≤ most_paths s.size
  pub limits : All (IsSizedResource s.size) s.resources
  pub arrivals : All (IsSizedSource s.size) s.sources
  pub times : All (IsSizedTask s.size) s.tasks

-- no two names of a list are the same
abbrev pub AllDiffer : List (List ℕ) → Type 0
AllDiffer names = AllPairs (λ first second. first ≢ second) names

-- the names of the sources and then of the tasks, which share one set of names
abbrev pub activity_names : SystemLists → List (List ℕ)
activity_names s = map (λ (r : Source). r.name) s.sources ++ map (λ (t : Task). t.name) s.tasks

-- two tasks of one resource don't have one priority
abbrev pub HaveOwnPriorities : Task → Task → Type 0
HaveOwnPriorities t u = t.res ≡ u.res → (number : ℕ) → t.turn ≡ turn.Priority number → u.turn ≢ turn.Priority number

-- two tasks with one lock are on one resource
abbrev pub HaveLocksTogether : Task → Task → Type 0
HaveLocksTogether t u = (lock : List ℕ) → uses_lock lock t ≡ true → uses_lock lock u ≡ true → t.res ≡ u.res

-- the rules
pub record IsSystem (s : SystemLists) : Type 0 where
  pub sized : IsSized s
  pub few_resources : length s.resources ≤ MAX_RESOURCES
  pub few_sources : length s.sources ≤ MAX_SOURCES
  pub few_tasks : length s.tasks ≤ MAX_TASKS
  pub few_paths : length s.paths ≤ MAX_PATHS
  pub resources : All IsResource s.resources
  pub sources : All IsSource s.sources
  pub tasks : All (IsTask s) s.tasks
  pub paths : All (IsPath s) s.paths
  pub chains : (i : ℕ) → i < length s.tasks → IsSome (depth_within (activators s.tasks) MAX_CHAIN i)
  pub streams : (i : ℕ) → i < length s.tasks → length (streams_of s i) ≤ MAX_STREAMS
  pub resources_named : All (λ (r : Resource). is_name r.name ≡ true) s.resources
  pub sources_named : All (λ (r : Source). is_name r.name ≡ true) s.sources
  pub clocks_named : All (λ (r : Source). has_clock_name (clock_name r.on_clock) ≡ true) s.sources
  pub clocks : All (HasShortClock s) s.sources
  pub tasks_named : All (λ (t : Task). is_name t.name ≡ true) s.tasks
  pub paths_named : All (λ (p : Path). is_name p.name ≡ true) s.paths
  pub resource_names : AllDiffer (map (λ (r : Resource). r.name) s.resources)
  pub activity_names : AllDiffer (activity_names s)
  pub path_names : AllDiffer (map (λ (p : Path). p.name) s.paths)
  pub priorities : AllPairs HaveOwnPriorities s.tasks
  pub locks : AllPairs HaveLocksTogether s.tasks
