-- A system: its resources, sources, tasks and paths, as in the system graphs of SymTA/S.
use Rattle.std.specs.Prelude.{ℕ, ◌+◌, ◌==◌, ◌&&◌, nat_lt, not, Bool, false, List, [], filter, map, sum_by, length, slice_index_or, None, Option, option_map, position, unwrap_or}
use Rattle.std.specs.List.{range_with_len, list_any}
use Rattle.std.specs.Str.{bytes_eq}
use Rattle.cpa_units.specs.declared.limits.TheConstants.{MAX_CHAIN}
use Rattle.cpa_units.specs.declared.limits.Size.{Size}
use Rattle.cpa_units.specs.declared.places.ResId.{ResId}
use Rattle.cpa_units.specs.declared.places.SourceId.{SourceId}
use Rattle.cpa_units.specs.declared.places.TaskId.{TaskId}
use Rattle.cpa_model.specs.Chains.{activators, depth_within, streams_within}
use Rattle.cpa_model.specs.declared.entries.Resource.{Resource}
use Rattle.cpa_model.specs.declared.entries.Source.{Source}
use Rattle.cpa_model.specs.declared.entries.Task.{Task}
use Rattle.cpa_model.specs.declared.entries.Path.{Path}
use Rattle.cpa_model.specs.declared.entries.Kind.{Kind}
use Rattle.cpa_model.specs.declared.entries.Kind.TheVariants as kind
use Rattle.cpa_model.specs.declared.entries.Turn.{Turn}
use Rattle.cpa_model.specs.declared.entries.Turn.TheVariants as turn
use Rattle.cpa_model.specs.declared.entries.Activator.{Activator}
use Rattle.cpa_model.specs.declared.entries.Activator.TheVariants as activator

-- the four lists, in the order of the system file, and how large a system of them may be
pub record SystemLists : Type 0 where
  pub size : Size
  pub resources : List Resource
  pub sources : List Source
  pub tasks : List Task
  pub paths : List Path

-- what stands outside the lists, where no rule speaks of it
abbrev pub no_resource : Resource
no_resource = record { name = []; kind = kind.Preemptive; limit = 0 }

abbrev pub no_source : Source
no_source = record { name = []; period = 1; jitter = 0; distance = 0; sporadic = false; on_clock = None }

abbrev pub no_task : Task
no_task = record { name = []; res = record { 0 = 0 }; after = []; best = 0; worst = 0; turn = turn.Priority 0; region = 1; locks = [] }

abbrev pub no_path : Path
no_path = record { name = []; tasks = []; deadline = None }

-- the entries by place
abbrev pub resource_at : SystemLists → ℕ → Resource
resource_at s k = slice_index_or s.resources k no_resource

abbrev pub source_at : SystemLists → ℕ → Source
source_at s k = slice_index_or s.sources k no_source

abbrev pub task_at : SystemLists → ℕ → Task
task_at s i = slice_index_or s.tasks i no_task

abbrev pub path_at : SystemLists → ℕ → Path
path_at s k = slice_index_or s.paths k no_path

-- the places of all tasks
abbrev pub task_places : SystemLists → List ℕ
task_places s = range_with_len 0 (length s.tasks)

-- the places of all sources
abbrev pub source_places : SystemLists → List ℕ
source_places s = range_with_len 0 (length s.sources)

-- whether a task is on a resource
abbrev pub is_on : SystemLists → ℕ → ℕ → Bool
is_on s r i = (task_at s i).res.0 == r

-- the places of a resource's tasks, in their order
abbrev pub tasks_on : SystemLists → ℕ → List ℕ
tasks_on s r = filter (is_on s r) (task_places s)

-- the place of a task
abbrev pub place_of : TaskId → ℕ
place_of task = task.0

abbrev pub places_of : List TaskId → List ℕ
places_of tasks = map place_of tasks

-- the resource that a task is on
abbrev pub resource_of : SystemLists → ℕ → Resource
resource_of s i = resource_at s (task_at s i).res.0

-- the priority number of a turn, 0 where it has none
abbrev pub priority_of : Turn → ℕ
priority_of (turn.Priority number) = number
priority_of (turn.Slot ticks) = 0
priority_of turn.Queued = 0

-- the slot of a turn, 0 where it has none
abbrev pub slot_of : Turn → ℕ
slot_of (turn.Priority number) = 0
slot_of (turn.Slot ticks) = ticks
slot_of turn.Queued = 0

-- whether two tasks are on one resource
abbrev pub shares_resource : SystemLists → ℕ → ℕ → Bool
shares_resource s i j = (task_at s i).res.0 == (task_at s j).res.0

-- whether j is on the resource of i and of higher priority: its number is smaller
abbrev pub is_higher : SystemLists → ℕ → ℕ → Bool
is_higher s i j = shares_resource s i j && nat_lt (priority_of (task_at s j).turn) (priority_of (task_at s i).turn)

abbrev pub higher_tasks : SystemLists → ℕ → List ℕ
higher_tasks s i = filter (is_higher s i) (task_places s)

-- whether j is another task of the resource of i
abbrev pub is_other : SystemLists → ℕ → ℕ → Bool
is_other s i j = shares_resource s i j && not (j == i)

abbrev pub other_tasks : SystemLists → ℕ → List ℕ
other_tasks s i = filter (is_other s i) (task_places s)

-- the gap of a kind, 0 where it has none
abbrev pub gap_of : Kind → ℕ
gap_of (kind.Tdma gap) = gap
gap_of _ = 0

-- the cycle of a TDMA resource: the slots of its tasks, and its gap
abbrev pub cycle_of : SystemLists → ℕ → ℕ
cycle_of s r = sum_by (λ i. slot_of (task_at s i).turn) (tasks_on s r) + gap_of (resource_at s r).kind

-- whether an activator is source k, and whether it is task j
abbrev pub is_source : ℕ → Activator → Bool
is_source k (activator.Source source) = source.0 == k
is_source k (activator.Task task) = false

abbrev pub is_task : ℕ → Activator → Bool
is_task j (activator.Source source) = false
is_task j (activator.Task task) = task.0 == j

-- the name of an activator
abbrev pub activator_name : SystemLists → Activator → List ℕ
activator_name s (activator.Source k) = (source_at s k.0).name
activator_name s (activator.Task j) = (task_at s j.0).name

-- whether source k is among the activators of task i
abbrev pub is_fed_by : SystemLists → ℕ → ℕ → Bool
is_fed_by s k i = list_any (is_source k) (task_at s i).after

-- whether task j is among the activators of task i
abbrev pub is_activated_by : SystemLists → ℕ → ℕ → Bool
is_activated_by s j i = list_any (is_task j) (task_at s i).after

-- the number of tasks in the longest chain up to and with a task
abbrev pub depth_of : SystemLists → ℕ → ℕ
depth_of s i = unwrap_or (depth_within (activators s.tasks) MAX_CHAIN i) 0

-- the sources of a task's streams: those whose events reach it, once for each way on which they do, by the order of activators
abbrev pub streams_of : SystemLists → ℕ → List SourceId
streams_of s i = streams_within (activators s.tasks) MAX_CHAIN i

-- the source of one of a task's streams
abbrev pub stream_at : SystemLists → ℕ → ℕ → SourceId
stream_at s i k = slice_index_or (streams_of s i) k (record { 0 = 0 })

-- the source of a task's first stream
abbrev pub root_of : SystemLists → ℕ → SourceId
root_of s i = stream_at s i 0

-- whether a source may fall silent
abbrev pub is_sporadic : SystemLists → SourceId → Bool
is_sporadic s k = (source_at s k.0).sporadic

-- whether some stream of a task is that of a sporadic source
abbrev pub may_fall_silent : SystemLists → ℕ → Bool
may_fall_silent s i = list_any (is_sporadic s) (streams_of s i)

-- the resource, the source and the task with a name
abbrev pub resource_named : SystemLists → List ℕ → Option ResId
resource_named s name = option_map (λ k. record { 0 = k }) (position (λ (r : Resource). bytes_eq name r.name) s.resources)

abbrev pub source_named : SystemLists → List ℕ → Option SourceId
source_named s name = option_map (λ k. record { 0 = k }) (position (λ (r : Source). bytes_eq name r.name) s.sources)

abbrev pub task_named : SystemLists → List ℕ → Option TaskId
task_named s name = option_map (λ k. record { 0 = k }) (position (λ (t : Task). bytes_eq name t.name) s.tasks)
