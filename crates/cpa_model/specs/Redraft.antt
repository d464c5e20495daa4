-- The draft that says the same as a system.
use Rattle.std.specs.Prelude.{◌≡◌, ℕ, ℤ, pos, ◌==◌, if◌then◌else◌, List, map, Option, Some, None, option_map}
use Rattle.cpa_units.specs.declared.places.TaskId.{TaskId}
use Rattle.cpa_model.specs.declared.entries.Resource.{Resource}
use Rattle.cpa_model.specs.declared.entries.Source.{Source}
use Rattle.cpa_model.specs.declared.entries.Task.{Task}
use Rattle.cpa_model.specs.declared.entries.Path.{Path}
use Rattle.cpa_model.specs.declared.locks.CriticalSection.{CriticalSection}
use Rattle.cpa_model.specs.declared.entries.Kind.{Kind}
use Rattle.cpa_model.specs.declared.entries.Kind.TheVariants.{Preemptive, RoundRobin, Tdma, Can, Fifo, Ceiling}
use Rattle.cpa_model.specs.declared.entries.Turn.{Turn}
use Rattle.cpa_model.specs.declared.entries.Turn.TheVariants.{Priority, Slot, Queued}
use Rattle.cpa_draft.specs.declared.draft.DraftResource.{DraftResource}
use Rattle.cpa_draft.specs.declared.draft.DraftSource.{DraftSource}
use Rattle.cpa_draft.specs.declared.draft.DraftTask.{DraftTask}
use Rattle.cpa_draft.specs.declared.draft.DraftPath.{DraftPath}
use Rattle.cpa_draft.specs.declared.draft.DraftLock.{DraftLock}
use Rattle.cpa_draft.specs.declared.draft.KindWord.{KindWord}
use Rattle.cpa_draft.specs.declared.draft.KindWord.TheVariants as word
use Rattle.cpa_draft.specs.DraftLists.{DraftLists}
use Rattle.cpa_draft.specs.Refusals.{first_refusal}
use Rattle.cpa_model.specs.Built.{system_of}
use Rattle.cpa_model.specs.Rules.{IsSystem}
use Rattle.cpa_model.specs.Clocks.{clock_name, offset_on}
use Rattle.cpa_model.specs.SystemLists.{SystemLists, resource_at, task_at, activator_name}

abbrev pub word_of : Kind → KindWord
word_of Preemptive = word.Preemptive
word_of RoundRobin = word.RoundRobin
word_of (Tdma gap) = word.Tdma
word_of (Can bit) = word.Can
word_of Fifo = word.Fifo
word_of Ceiling = word.Ceiling

abbrev pub gap_at : Kind → Option ℤ
gap_at (Tdma gap) = Some (pos gap)
gap_at _ = None

abbrev pub bit_at : Kind → Option ℤ
bit_at (Can bit) = Some (pos bit)
bit_at _ = None

abbrev pub redraft_resource : Resource → DraftResource
redraft_resource r = record { name = r.name; kind = word_of r.kind; limit = Some (pos r.limit); gap = gap_at r.kind; bit = bit_at r.kind; rate = None }

-- an offset that isn't the default
abbrev pub offset_at : ℕ → Option ℤ
offset_at ticks = if ticks == 0 then None else Some (pos ticks)

abbrev pub redraft_source : Source → DraftSource
redraft_source r = record { name = r.name; period = pos r.period; jitter = Some (pos r.jitter); distance = Some (pos r.distance); sporadic = r.sporadic; clock = clock_name r.on_clock; offset = offset_at (offset_on r.on_clock) }

abbrev pub priority_at : Turn → Option ℤ
priority_at (Priority number) = Some (pos number)
priority_at (Slot ticks) = None
priority_at Queued = None

abbrev pub slot_at : Turn → Option ℤ
slot_at (Priority number) = None
slot_at (Slot ticks) = Some (pos ticks)
slot_at Queued = None

-- a region that isn't the default
abbrev pub region_at : ℕ → Option ℤ
region_at ticks = if ticks == 1 then None else Some (pos ticks)

abbrev pub redraft_section : CriticalSection → DraftLock
redraft_section c = record { name = c.lock; start = pos c.start; length = pos c.length }

abbrev pub redraft_task : SystemLists → Task → DraftTask
redraft_task s t = record {
  name = t.name;
  on = (resource_at s t.res.0).name;
  after = map (activator_name s) t.after;
  best = Some (pos t.best);
  worst = Some (pos t.worst);
  payload = None;
  extended = None;
  priority = priority_at t.turn;
  slot = slot_at t.turn;
  region = region_at t.region;
  locks = map redraft_section t.locks;
}

abbrev pub redraft_path : SystemLists → Path → DraftPath
redraft_path s p = record { name = p.name; tasks = map (λ (i : TaskId). (task_at s i.0).name) p.tasks; deadline = option_map pos p.deadline }

unfoldable pub redraft : SystemLists → DraftLists
redraft s = record {
  size = s.size;
  resources = map redraft_resource s.resources;
  sources = map redraft_source s.sources;
  tasks = map (redraft_task s) s.tasks;
  paths = map (redraft_path s) s.paths;
}

-- no system's own draft is refused
abbrev pub OwnDraftsAreAccepted : Type 0
OwnDraftsAreAccepted = (s : SystemLists) → IsSystem s → first_refusal (redraft s) ≡ None

-- and it stands for the system
abbrev pub OwnDraftsStand : Type 0
OwnDraftsStand = (s : SystemLists) → IsSystem s → system_of (redraft s) ≡ s
