-- The bound of a task by the set of tasks above it alone: all other tasks of the resource are below.
use Rattle.std.specs.Prelude.{ℕ, ◌-◌, ◌<◌, ◌≤◌, ◌≡◌, ◌==◌, ◌&&◌, ◌||◌, if◌then◌else◌, min, max, not, Bool, true, Option, Some, List, length, filter, fold, map, vec_capacity}
use Rattle.std.specs.List.{list_any, range_with_len}
use Rattle.cpa_units.specs.declared.places.SourceId.{SourceId}
use Rattle.cpa_units.specs.declared.bound.Bound.{Bound}
use Rattle.cpa_units.specs.declared.bound.Bound.TheVariants.{Overload}
use Rattle.cpa_events.specs.Events.{Model}
use Rattle.cpa_window.specs.declared.rivals.Rival.{Rival}
use Rattle.cpa_spp.specs.Preemptive.{preemptive_bound}
use Rattle.cpa_can.specs.Can.{can_bound}
use Rattle.cpa_clock.specs.declared.anchor.Anchor.{Anchor}
use Rattle.cpa_clock.specs.Gathered.{anchors_at, added_rival}
use Rattle.cpa_clock.specs.Rivals.{ClockedRival}
use Rattle.cpa_clock.specs.Clocked.{clocked_preemptive_bound}
use Rattle.cpa_model.specs.Clocks.{clock_cycle}
use Rattle.cpa_model.specs.declared.entries.Kind.{Kind}
use Rattle.cpa_model.specs.declared.entries.Kind.TheVariants.{Preemptive, RoundRobin, Tdma, Can, Fifo, Ceiling}
use Rattle.cpa_model.specs.declared.locks.CriticalSection.{CriticalSection}
use Rattle.cpa_model.specs.Kinds.{blocking_by}
use Rattle.cpa_model.specs.Locks.{uses_lock}
use Rattle.cpa_model.specs.SystemLists.{SystemLists, task_at, resource_at, task_places, tasks_on, streams_of}
use Rattle.cpa_model.specs.Streams.{source_stream}
use Rattle.cpa_local.specs.OnClocks.{source_anchor}
use Rattle.cpa_assign.specs.declared.placing.Room.{Room}
use Rattle.cpa_assign.specs.Orders.{is_task_on, is_off_clocks, IsInTime}

-- the event model of a task that sources alone activate: the streams of these, in their order
abbrev pub sources_model : SystemLists → ℕ → Model
sources_model s i = map (λ (k : SourceId). source_stream s k.0) (streams_of s i)

-- a task as those below it see it; its slot and its own bound don't count
abbrev pub rival_at : SystemLists → ℕ → Rival
rival_at s j = record { model = Some (sources_model s j); worst = (task_at s j).worst; slot = 0; bound = Overload }

-- the tasks that pass a test, as rivals
abbrev pub rivals_at : SystemLists → (ℕ → Bool) → List Rival
rivals_at s test = map (rival_at s) (filter test (task_places s))

-- whether j is below task i of the resource, where `above` says which are above
abbrev pub is_below : SystemLists → ℕ → (ℕ → Bool) → ℕ → ℕ → Bool
is_below s r above i j = is_task_on s r j && not (above j || j == i)

abbrev pub tasks_below : SystemLists → ℕ → (ℕ → Bool) → ℕ → List ℕ
tasks_below s r above i = filter (is_below s r above i) (task_places s)

-- whether a task is task i, or above it, and uses a lock
abbrev pub is_reaching : SystemLists → (ℕ → Bool) → ℕ → List ℕ → ℕ → Bool
is_reaching s above i lock k = (above k || k == i) && uses_lock lock (task_at s k)

-- whether one of the resource does: then the ceiling of the lock is no less urgent than task i
abbrev pub reaches : SystemLists → ℕ → (ℕ → Bool) → ℕ → List ℕ → Bool
reaches s r above i lock = list_any (is_reaching s above i lock) (tasks_on s r)

-- by how long a critical section of a task below that takes so long at most keeps task i waiting
abbrev pub placed_section : SystemLists → ℕ → (ℕ → Bool) → ℕ → ℕ → CriticalSection → ℕ
placed_section s r above i worst c = if reaches s r above i c.lock then min c.length worst - 1 else 0

-- the greatest of several
abbrev pub placed_sections : SystemLists → ℕ → (ℕ → Bool) → ℕ → ℕ → List CriticalSection → ℕ
placed_sections s r above i worst cs = fold (λ most c. max most (placed_section s r above i worst c)) 0 cs

-- by how long a job of task j below keeps task i waiting: by what the kind says, and under ceilings by critical sections besides
abbrev pub placed_between : SystemLists → ℕ → (ℕ → Bool) → ℕ → Kind → ℕ → ℕ
placed_between s r above i Preemptive j = blocking_by Preemptive (task_at s j)
placed_between s r above i RoundRobin j = blocking_by RoundRobin (task_at s j)
placed_between s r above i (Tdma gap) j = blocking_by (Tdma gap) (task_at s j)
placed_between s r above i (Can bit) j = blocking_by (Can bit) (task_at s j)
placed_between s r above i Fifo j = blocking_by Fifo (task_at s j)
placed_between s r above i Ceiling j = max (blocking_by Ceiling (task_at s j)) (placed_sections s r above i (task_at s j).worst (task_at s j).locks)

-- the greatest by one of the tasks below, 0 if there are none
abbrev pub placed_blocking : SystemLists → ℕ → (ℕ → Bool) → ℕ → Kind → ℕ
placed_blocking s r above i kind = fold (λ most j. max most (placed_between s r above i kind j)) 0 (tasks_below s r above i)

abbrev pub placed_by_kind : SystemLists → ℕ → (ℕ → Bool) → ℕ → Kind → Bound
placed_by_kind s r above i Preemptive =
    preemptive_bound (sources_model s i) (task_at s i).worst (placed_blocking s r above i Preemptive) (rivals_at s above) (resource_at s r).limit
placed_by_kind s r above i (Can bit) =
    can_bound (sources_model s i) (task_at s i).worst (placed_blocking s r above i (Can bit)) (rivals_at s above) bit (resource_at s r).limit
placed_by_kind s r above i Ceiling =
    preemptive_bound (sources_model s i) (task_at s i).worst (placed_blocking s r above i Ceiling) (rivals_at s above) (resource_at s r).limit
placed_by_kind s r above i _ = Overload

-- where the streams of such a task are on clocks
abbrev pub source_anchors : SystemLists → ℕ → List (Option Anchor)
source_anchors s i = map (λ (k : SourceId). source_anchor s k.0) (streams_of s i)

-- the task as those below it see it
abbrev pub clocked_rival_at : SystemLists → ℕ → ClockedRival
clocked_rival_at s j = added_rival (Some (sources_model s j)) (source_anchors s j) (task_at s j).worst

abbrev pub clocked_rivals_at : SystemLists → (ℕ → Bool) → List ClockedRival
clocked_rivals_at s test = map (clocked_rival_at s) (filter test (task_places s))

-- the bound where tasks are on clocks, a more urgent job takes over at once, and none keeps another waiting
abbrev pub placed_on_clocks : SystemLists → ℕ → (ℕ → Bool) → ℕ → Bound
placed_on_clocks s r above i =
    clocked_preemptive_bound (sources_model s i) (anchors_at (source_anchors s i)) (task_at s i).worst 0 (clocked_rivals_at s above) (clock_cycle s) (length s.sources) (resource_at s r).limit

abbrev pub placed_by_clocks : SystemLists → ℕ → (ℕ → Bool) → ℕ → Kind → Bound
placed_by_clocks s r above i Preemptive = placed_on_clocks s r above i
placed_by_clocks s r above i Ceiling = placed_on_clocks s r above i
placed_by_clocks s r above i _ = Overload

-- the bound of task i of a resource below those that `above` says
unfoldable pub placed_bound : SystemLists → ℕ → (ℕ → Bool) → ℕ → Bound
placed_bound s r above i =
    if is_off_clocks s r then placed_by_kind s r above i (resource_at s r).kind else placed_by_clocks s r above i (resource_at s r).kind

-- the cycle of the clock that each source is on, by the sources' places
abbrev pub AreSourceCycles : SystemLists → List ℕ → Type 0
AreSourceCycles s cycles = cycles ≡ map (clock_cycle s) (range_with_len 0 (length s.sources))

-- what the search for a place on r has at hand
pub record IsRoom (s : SystemLists) (r : ℕ) (room : Room) : Type 0 where
  pub off : room.off ≡ is_off_clocks s r
  pub cycles : AreSourceCycles s room.cycles.items
  pub rivals : length s.tasks ≤ vec_capacity room.rivals

-- those that are free but one
abbrev pub without : (ℕ → Bool) → ℕ → ℕ → Bool
without free i j = free j && not (j == i)

-- task i is in time below those that `above` says
abbrev pub Fits : SystemLists → ℕ → (ℕ → Bool) → ℕ → Type 0
Fits s r above i = IsInTime s i (placed_bound s r above i)

-- the first of the free tasks that is in time below all others of them
pub record IsLowestOf (s : SystemLists) (r : ℕ) (free : ℕ → Bool) (i : ℕ) : Type 0 where
  pub unplaced : free i ≡ true
  pub fits : Fits s r (without free i) i
  pub first : (k : ℕ) → k < i → free k ≡ true → ¬ Fits s r (without free k) k

-- none of the free tasks is in time below all others of them
abbrev pub NoneIsLowest : SystemLists → ℕ → (ℕ → Bool) → Type 0
NoneIsLowest s r free = (k : ℕ) → free k ≡ true → ¬ Fits s r (without free k) k
