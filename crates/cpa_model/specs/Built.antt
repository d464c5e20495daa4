-- The system that a draft stands for.
use Rattle.std.specs.Prelude.{ℕ, ℤ, ◌-◌, ◌*◌, ◌&&◌, ◌||◌, ◌<◌, ◌≤◌, ◌^◌, All, nat_lt, if◌then◌else◌, Bool, true, false, List, map, length, Option, Some, None, is_some, is_none, option_map, unwrap_or}
use Rattle.cpa_units.specs.declared.limits.TheConstants.{DEFAULT_LIMIT, MAX_PAYLOAD, MAX_BIT}
use Rattle.cpa_units.specs.declared.places.TaskId.{TaskId}
use Rattle.cpa_units.specs.Frames.{least_frame_bits, greatest_frame_bits}
use Rattle.cpa_draft.specs.Ports.{least_port_ticks, greatest_port_ticks}
use Rattle.cpa_draft.specs.Numbers.{nat_of, nat_or}
use Rattle.cpa_draft.specs.DraftLists.{DraftLists, resource_at as draft_resource_at}
use Rattle.cpa_draft.specs.Names.{resource_names, activity_names, place_of, kind_of}
use Rattle.cpa_draft.specs.declared.ports.TheConstants.{MAX_RATE, MAX_PORT_PAYLOAD}
use Rattle.cpa_draft.specs.declared.draft.DraftResource.{DraftResource}
use Rattle.cpa_draft.specs.declared.draft.DraftSource.{DraftSource}
use Rattle.cpa_draft.specs.declared.draft.DraftTask.{DraftTask}
use Rattle.cpa_draft.specs.declared.draft.DraftPath.{DraftPath}
use Rattle.cpa_draft.specs.declared.draft.DraftLock.{DraftLock}
use Rattle.cpa_draft.specs.declared.draft.KindWord.{KindWord}
use Rattle.cpa_draft.specs.declared.draft.KindWord.TheVariants as word
use Rattle.cpa_model.specs.SystemLists.{SystemLists}
use Rattle.cpa_model.specs.declared.entries.Resource.{Resource}
use Rattle.cpa_model.specs.declared.entries.Source.{Source}
use Rattle.cpa_model.specs.declared.entries.OnClock.{OnClock}
use Rattle.cpa_model.specs.declared.entries.Task.{Task}
use Rattle.cpa_model.specs.declared.entries.Path.{Path}
use Rattle.cpa_model.specs.declared.locks.CriticalSection.{CriticalSection}
use Rattle.cpa_model.specs.declared.entries.Kind.{Kind}
use Rattle.cpa_model.specs.declared.entries.Kind.TheVariants as kind
use Rattle.cpa_model.specs.declared.entries.Activator.{Activator}
use Rattle.cpa_model.specs.declared.entries.Activator.TheVariants as activator
use Rattle.cpa_model.specs.declared.activators.TheConstants.{MAX_ACTIVATORS}
use Rattle.cpa_model.specs.declared.entries.Turn.{Turn}
use Rattle.cpa_model.specs.declared.entries.Turn.TheVariants as turn

-- a kind with its gap or its bit time, or their defaults
abbrev pub built_kind : KindWord → Option ℤ → Option ℤ → Kind
built_kind word.Preemptive gap bit = kind.Preemptive
built_kind word.RoundRobin gap bit = kind.RoundRobin
built_kind word.Tdma gap bit = kind.Tdma (nat_or 0 gap)
built_kind word.Can gap bit = kind.Can (nat_or 1 bit)
built_kind word.Fifo gap bit = kind.Fifo
built_kind word.Ceiling gap bit = kind.Ceiling

abbrev pub built_resource : DraftResource → Resource
built_resource r = record { name = r.name; kind = built_kind r.kind r.gap r.bit; limit = nat_or DEFAULT_LIMIT r.limit }

abbrev pub built_on_clock : Option (List ℕ) → Option ℤ → Option OnClock
built_on_clock clock offset = option_map (λ name. record { clock = name; offset = nat_or 0 offset }) clock

abbrev pub built_source : DraftSource → Source
built_source r = record { name = r.name; period = nat_of r.period; jitter = nat_or 0 r.jitter; distance = nat_or 0 r.distance; sporadic = r.sporadic; on_clock = built_on_clock r.clock r.offset }

-- the place of the resource with a name
abbrev pub resource_place : DraftLists → List ℕ → ℕ
resource_place d name = unwrap_or (place_of (resource_names d) name) 0

-- the place of a name among the sources and then the tasks
abbrev pub activity_place : DraftLists → List ℕ → ℕ
activity_place d name = unwrap_or (place_of (activity_names d) name) 0

-- what stands at a place among so many sources and then the tasks
abbrev pub activator_at : ℕ → ℕ → Activator
activator_at sources k =
    if nat_lt k sources then activator.Source (record { 0 = k }) else activator.Task (record { 0 = k - sources })

abbrev pub built_activator : DraftLists → List ℕ → Activator
built_activator d name = activator_at (length d.sources) (activity_place d name)

-- the bit time of the resource with a name
abbrev pub bit_time : DraftLists → List ℕ → ℕ
bit_time d name = nat_or 1 (draft_resource_at d (resource_place d name)).bit

-- the rate of the resource with a name
abbrev pub rate_of : DraftLists → List ℕ → ℕ
rate_of d name = nat_or 1 (draft_resource_at d (resource_place d name)).rate

-- the least and the greatest length of a frame: by the rate on a queue, by the bit time else
abbrev pub least_frame : Option KindWord → ℕ → ℕ → ℕ → Bool → ℕ
least_frame (Some word.Fifo) bit rate payload extended = least_port_ticks payload rate
least_frame _ bit rate payload extended = least_frame_bits payload extended * bit

abbrev pub greatest_frame : Option KindWord → ℕ → ℕ → ℕ → Bool → ℕ
greatest_frame (Some word.Fifo) bit rate payload extended = greatest_port_ticks payload rate
greatest_frame _ bit rate payload extended = greatest_frame_bits payload extended * bit

-- the least and the greatest execution: that of a frame where there is a payload, else as given
abbrev pub least_execution : Option KindWord → Option ℤ → Bool → ℕ → ℕ → ℕ → ℕ
least_execution kind None extended bit rate given = given
least_execution kind (Some payload) extended bit rate given = least_frame kind bit rate (nat_of payload) extended

abbrev pub greatest_execution : Option KindWord → Option ℤ → Bool → ℕ → ℕ → ℕ → ℕ
greatest_execution kind None extended bit rate given = given
greatest_execution kind (Some payload) extended bit rate given = greatest_frame kind bit rate (nat_of payload) extended

-- what a task has by the kind of its resource
abbrev pub built_turn : Option KindWord → DraftTask → Turn
built_turn (Some word.Preemptive) t = turn.Priority (nat_or 0 t.priority)
built_turn (Some word.Can) t = turn.Priority (nat_or 0 t.priority)
built_turn (Some word.Ceiling) t = turn.Priority (nat_or 0 t.priority)
built_turn (Some word.Fifo) t = turn.Queued
built_turn _ t = turn.Slot (nat_or 0 t.slot)

abbrev pub built_section : DraftLock → CriticalSection
built_section l = record { lock = l.name; start = nat_of l.start; length = nat_of l.length }

unfoldable pub built_task : DraftLists → DraftTask → Task
built_task d t = record {
  name = t.name;
  res = record { 0 = resource_place d t.on };
  after = map (built_activator d) t.after;
  best = least_execution (kind_of d t.on) t.payload (unwrap_or t.extended false) (bit_time d t.on) (rate_of d t.on) (nat_or 0 t.best);
  worst = greatest_execution (kind_of d t.on) t.payload (unwrap_or t.extended false) (bit_time d t.on) (rate_of d t.on) (nat_or 0 t.worst);
  turn = built_turn (kind_of d t.on) t;
  region = nat_or 1 t.region;
  locks = map built_section t.locks;
}

-- the place of the task with a name
abbrev pub task_named : DraftLists → List ℕ → TaskId
task_named d name = record { 0 = activity_place d name - length d.sources }

abbrev pub built_path : DraftLists → DraftPath → Path
built_path d p = record { name = p.name; tasks = map (task_named d) p.tasks; deadline = option_map nat_of p.deadline }

unfoldable pub system_of : DraftLists → SystemLists
system_of d = record { size = d.size; resources = map built_resource d.resources; sources = map built_source d.sources; tasks = map (built_task d) d.tasks; paths = map (built_path d) d.paths }

-- whether a task has both executions, and neither a payload nor a sort of frame, or a payload in place of both
abbrev pub has_executions : DraftTask → Bool
has_executions t =
    (is_some t.best && is_some t.worst && is_none t.payload && is_none t.extended)
    || (is_some t.payload && is_none t.best && is_none t.worst)

-- a payload for which a frame of the kind has room
abbrev pub most_frame : Option KindWord → ℕ
most_frame (Some word.Fifo) = MAX_PORT_PAYLOAD
most_frame _ = MAX_PAYLOAD

-- places and numbers of a draft's tasks and paths that fit the types of a system's
pub record TaskFitsTypes (d : DraftLists) (t : DraftTask) : Type 0 where
  pub place : resource_place d t.on < 2 ^ 32
  pub some : 0 < length t.after
  pub few : length t.after ≤ MAX_ACTIVATORS
  pub activities : All (λ name. activity_place d name < 2 ^ 32) t.after
  pub priority : nat_or 0 t.priority < 2 ^ 32
  pub payload : nat_or 0 t.payload ≤ most_frame (kind_of d t.on)
  pub bit : bit_time d t.on ≤ MAX_BIT
  pub some_rate : 1 ≤ rate_of d t.on
  pub rate : rate_of d t.on ≤ MAX_RATE

pub record PathFitsTypes (d : DraftLists) (p : DraftPath) : Type 0 where
  pub places : All (λ name. activity_place d name < 2 ^ 32) p.tasks
  pub count : length p.tasks < 2 ^ 32
