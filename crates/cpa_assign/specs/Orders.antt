-- Priority orders of a resource, as in Audsley's optimal priority assignment ("Optimal priority assignment and feasibility of
-- static priority tasks with arbitrary start times", 1991).
use Rattle.std.specs.Prelude.{ℕ, ◌<◌, ◌≡◌, ◌≢◌, ◌⊎◌, ◌==◌, ◌&&◌, ◌||◌, not, nat_lt, nat_le, Bool, IsTrue, true, false, if◌then◌else◌, Option, Some, None, List, [], ◌∷◌, filter, map, length, reverse}
use Rattle.std.specs.List.{AllPairs, list_all, list_any, position_or_len}
use Rattle.std.specs.Option.{ForSome}
use Rattle.cpa_units.specs.declared.bound.Bound.{Bound}
use Rattle.cpa_units.specs.declared.bound.Bound.TheVariants.{Within}
use Rattle.cpa_units.specs.declared.limits.TheConstants.{MAX_PRIORITY}
use Rattle.cpa_units.specs.declared.places.SourceId.{SourceId}
use Rattle.cpa_units.specs.declared.places.TaskId.{TaskId}
use Rattle.cpa_units.specs.Bounds.{IsAtMost}
use Rattle.cpa_units.specs.Search.{least_from}
use Rattle.cpa_model.specs.declared.entries.Task.{Task}
use Rattle.cpa_model.specs.declared.entries.Path.{Path}
use Rattle.cpa_model.specs.declared.entries.Activator.{Activator}
use Rattle.cpa_model.specs.declared.entries.Activator.TheVariants.{Source as FromSource, Task as FromTask}
use Rattle.cpa_model.specs.declared.entries.Turn.TheVariants.{Priority}
use Rattle.cpa_model.specs.declared.entries.Kind.{Kind}
use Rattle.cpa_model.specs.declared.entries.Kind.TheVariants.{Preemptive, RoundRobin, Tdma, Can, Fifo, Ceiling}
use Rattle.cpa_model.specs.Kinds.{HasPriorities, blocking_by}
use Rattle.cpa_model.specs.Clocks.{is_clocked}
use Rattle.cpa_model.specs.SystemLists.{SystemLists, task_at, source_at, path_at, resource_at, task_places, tasks_on, streams_of, priority_of, is_on, places_of}
use Rattle.cpa_local.specs.Solution.{least_of}
use Rattle.cpa_local.specs.Paths.{path_worst}

-- whether a task is in a list
abbrev pub is_member : List ℕ → ℕ → Bool
is_member o i = list_any (λ j. j == i) o

-- whether a task is there, and on the resource
abbrev pub is_task_on : SystemLists → ℕ → ℕ → Bool
is_task_on s r i = nat_lt i (length s.tasks) && is_on s r i

-- a list of the tasks on a resource, each once; the first has the highest priority
pub record IsOrder (s : SystemLists) (r : ℕ) (o : List ℕ) : Type 0 where
  pub members : (i : ℕ) → is_member o i ≡ is_task_on s r i
  pub once : AllPairs (λ i j. i ≢ j) o

-- whether a task is on a resource and has a priority number up to p
abbrev pub has_number_up_to : SystemLists → ℕ → ℕ → ℕ → Bool
has_number_up_to s r p i = is_on s r i && nat_le (priority_of (task_at s i).turn) p

-- how many tasks on a resource do
abbrev pub number_up_to : SystemLists → ℕ → ℕ → ℕ
number_up_to s r p = length (filter (has_number_up_to s r p) (task_places s))

-- the k-th smallest of the priority numbers on a resource, counted from 0: the least up to which there are more than k
abbrev pub kth_priority : SystemLists → ℕ → ℕ → ℕ
kth_priority s r k = least_from (λ p. nat_lt k (number_up_to s r p)) 0 MAX_PRIORITY

-- the place of a task in an order, counted from 0
abbrev pub place_in : List ℕ → ℕ → ℕ
place_in o i = position_or_len (λ j. j == i) o

-- a task as the order has it
abbrev pub ordered_task : SystemLists → ℕ → List ℕ → ℕ → Task
ordered_task s r o i =
    if is_on s r i then record (task_at s i) { turn = Priority (kth_priority s r (place_in o i)) } else task_at s i

-- the system in which the k-th task of an order has the k-th smallest of the priority numbers on the resource
unfoldable pub with_order : SystemLists → ℕ → List ℕ → SystemLists
with_order s r o = record s { tasks = map (ordered_task s r o) (task_places s) }

-- the bound is at most the deadline, if there is one
abbrev pub IsWithinDeadline : Option ℕ → Bound → Type 0
IsWithinDeadline deadline bound = ForSome deadline (λ d. IsAtMost bound (Within d))

-- where the path is of this task alone, the bound is at most its deadline
abbrev pub IsPathInTime : Path → ℕ → Bound → Type 0
IsPathInTime p i bound = p.tasks ≡ record { 0 = i } ∷ [] → IsWithinDeadline p.deadline bound

-- the bound is at most the deadline of each path whose only task is this one
abbrev pub IsInTime : SystemLists → ℕ → Bound → Type 0
IsInTime s i bound = (k : ℕ) → k < length s.paths → IsPathInTime (path_at s k) i bound

-- each path whose only task is on the resource is within its deadline, in the least solution under the order
abbrev pub Meets : SystemLists → ℕ → List ℕ → Type 0
Meets s r o =
    (k i : ℕ) → k < length s.paths → (path_at s k).tasks ≡ record { 0 = i } ∷ [] → is_on s r i ≡ true
    → ForSome (path_at s k).deadline (λ d. IsAtMost (path_worst (least_of (with_order s r o)) (path_at s k)) (Within d))

-- the first list is lexicographically at most the second, which may be longer
abbrev pub IsLexAtMost : List ℕ → List ℕ → Type 0
IsLexAtMost [] ys = Unit {0}
IsLexAtMost (a ∷ xs) [] = ⊥
IsLexAtMost (a ∷ xs) (b ∷ ys) = (a < b) ⊎ ((a ≡ b) × IsLexAtMost xs ys)

-- the order meets the deadlines, and of all that do it is the least, read from its last member to its first
pub record IsBestOrder (s : SystemLists) (r : ℕ) (o : List ℕ) : Type 0 where
  pub order : IsOrder s r o
  pub meets : Meets s r o
  pub least : (p : List ℕ) → IsOrder s r p → Meets s r p → IsLexAtMost (reverse o) (reverse p)

-- what is answered of a resource: its best order, or none where no order meets
abbrev pub IsOrderOf : SystemLists → ℕ → Option (List TaskId) → Type 0
IsOrderOf s r (Some order) = IsBestOrder s r (places_of order)
IsOrderOf s r None = (o : List ℕ) → IsOrder s r o → ¬ Meets s r o

-- whether an activator is some source
abbrev pub is_some_source : Activator → Bool
is_some_source (FromSource k) = true
is_some_source (FromTask i) = false

-- whether all activators of a list are sources
abbrev pub are_sources : List Activator → Bool
are_sources them = list_all is_some_source them

-- whether the tasks on a resource are activated by sources alone
abbrev pub is_fed_by_sources : SystemLists → ℕ → Bool
is_fed_by_sources s r = list_all (λ i. are_sources (task_at s i).after) (tasks_on s r)

abbrev pub IsFedBySources : SystemLists → ℕ → Type 0
IsFedBySources s r = IsTrue (is_fed_by_sources s r)

-- whether a stream of a task comes from a source on a clock
abbrev pub is_clocked_task : SystemLists → ℕ → Bool
is_clocked_task s i = list_any (λ (k : SourceId). is_clocked (source_at s k.0)) (streams_of s i)

-- whether none of a task on the resource does
abbrev pub is_off_clocks : SystemLists → ℕ → Bool
is_off_clocks s r = list_all (λ i. not (is_clocked_task s i)) (tasks_on s r)

-- whether a job of a task keeps no more urgent one waiting: its region or its worst time is a tick, and it has no critical sections
abbrev pub is_without_sections : Task → Bool
is_without_sections t = blocking_by Preemptive t == 0 && length t.locks == 0

-- whether no task on the resource has any
abbrev pub is_unblocked : SystemLists → ℕ → Bool
is_unblocked s r = list_all (λ i. is_without_sections (task_at s i)) (tasks_on s r)

-- whether a more urgent job takes over at once, but for regions and critical sections
abbrev pub is_preemptive : Kind → Bool
is_preemptive Preemptive = true
is_preemptive RoundRobin = false
is_preemptive (Tdma gap) = false
is_preemptive (Can bit) = false
is_preemptive Fifo = false
is_preemptive Ceiling = true

-- Whether a task on the resource is never worse off where another moves from above it to below: none is on a clock, or none keeps
-- another waiting. Of two tasks on one clock that never meet, the lower may keep the higher waiting all the same.
abbrev pub can_compare : SystemLists → ℕ → Bool
can_compare s r = is_off_clocks s r || (is_preemptive (resource_at s r).kind && is_unblocked s r)

-- a resource that can be given an order
pub record IsOrderable (s : SystemLists) (r : ℕ) : Type 0 where
  pub there : r < length s.resources
  pub kind : HasPriorities (resource_at s r).kind
  pub fed : IsFedBySources s r
  pub clocks : can_compare s r ≡ true
