-- A system as a document.
use Rattle.std.specs.Prelude.{◌≡◌, ◌==◌, ℕ, Bool, true, false, if◌then◌else◌, pos, List, [], ◌∷◌, map, length, Option, Some, None, codes}
use Rattle.std.specs.List.{list_all}
use Rattle.std.specs.Ordering.{nat_cmp, match_ordering}
use Rattle.std.specs.Cmp.Lexicographic.{slice_cmp}
use Rattle.toml.specs.Data.{Data, Members, no_members, member, string, integer, boolean, array, table}
use Rattle.toml.specs.View.{items_of}
use Rattle.toml.specs.Text.{IsDocumentText}
use Rattle.cpa_units.specs.declared.limits.Size.{Size}
use Rattle.cpa_units.specs.declared.limits.Size.TheVariants.{Small, Large}
use Rattle.cpa_units.specs.declared.places.TaskId.{TaskId}
use Rattle.cpa_model.specs.declared.entries.Resource.{Resource}
use Rattle.cpa_model.specs.declared.entries.Source.{Source}
use Rattle.cpa_model.specs.declared.entries.OnClock.{OnClock}
use Rattle.cpa_model.specs.declared.entries.Task.{Task}
use Rattle.cpa_model.specs.declared.entries.Path.{Path}
use Rattle.cpa_model.specs.declared.locks.CriticalSection.{CriticalSection}
use Rattle.cpa_model.specs.declared.entries.Kind.{Kind}
use Rattle.cpa_model.specs.declared.entries.Kind.TheVariants.{Preemptive, RoundRobin, Tdma, Can, Fifo, Ceiling}
use Rattle.cpa_model.specs.declared.entries.Turn.{Turn}
use Rattle.cpa_model.specs.declared.entries.Turn.TheVariants.{Priority, Slot, Queued}
use Rattle.cpa_model.specs.declared.entries.Activator.{Activator}
use Rattle.cpa_model.specs.SystemLists.{SystemLists, resource_at, task_at, activator_name}
use Rattle.cpa_file.specs.Document.{document_of}

-- a key with its value in its place among members that ascend
abbrev pub put : List ℕ → Data → Members → Members
put k d no_members = member k d no_members
put k d (member l e ms) = match_ordering (slice_cmp nat_cmp k l) (member k d (member l e ms)) (member l d ms) (member l e (put k d ms))

abbrev pub kind_text : Kind → List ℕ
kind_text Preemptive = codes "preemptive"
kind_text RoundRobin = codes "round-robin"
kind_text (Tdma gap) = codes "tdma"
kind_text (Can bit) = codes "can"
kind_text Fifo = codes "fifo"
kind_text Ceiling = codes "ceiling"

-- the number that goes with a kind
abbrev pub with_kind_number : Kind → Members → Members
with_kind_number (Tdma gap) ms = put (codes "gap") (integer (pos gap)) ms
with_kind_number (Can bit) ms = put (codes "bit") (integer (pos bit)) ms
with_kind_number _ ms = ms

-- the entries
unfoldable pub resource_data : Resource → Data
resource_data r = table (with_kind_number r.kind (put (codes "limit") (integer (pos r.limit)) (put (codes "kind") (string (kind_text r.kind)) (put (codes "name") (string r.name) no_members))))

abbrev pub with_sporadic : Bool → Members → Members
with_sporadic true ms = put (codes "sporadic") (boolean true) ms
with_sporadic false ms = ms

-- an offset that isn't 0
abbrev pub with_offset : ℕ → Members → Members
with_offset ticks ms = if ticks == 0 then ms else put (codes "offset") (integer (pos ticks)) ms

abbrev pub with_clock : Option OnClock → Members → Members
with_clock None ms = ms
with_clock (Some o) ms = with_offset o.offset (put (codes "clock") (string o.clock) ms)

-- the numbers of a source
unfoldable pub source_numbers_data : Source → Members
source_numbers_data r =
    put (codes "distance") (integer (pos r.distance)) (put (codes "jitter") (integer (pos r.jitter)) (put (codes "period") (integer (pos r.period)) (put (codes "name") (string r.name) no_members)))

unfoldable pub source_data : Source → Data
source_data r = table (with_clock r.on_clock (with_sporadic r.sporadic (source_numbers_data r)))

abbrev pub with_turn : Turn → Members → Members
with_turn (Priority number) ms = put (codes "priority") (integer (pos number)) ms
with_turn (Slot ticks) ms = put (codes "slot") (integer (pos ticks)) ms
with_turn Queued ms = ms

abbrev pub activator_data : SystemLists → Activator → Data
activator_data s a = string (activator_name s a)

-- one activator as a text, several as an array
abbrev pub after_data : SystemLists → List Activator → Data
after_data s (a ∷ []) = activator_data s a
after_data s after = array (items_of (map (activator_data s) after))

-- a task's names
unfoldable pub task_names_data : SystemLists → Task → Members
task_names_data s t =
    put (codes "after") (after_data s t.after) (put (codes "on") (string (resource_at s t.res.0).name) (put (codes "name") (string t.name) no_members))

-- a region of more than a tick
abbrev pub with_region : ℕ → Members → Members
with_region ticks ms = if ticks == 1 then ms else put (codes "region") (integer (pos ticks)) ms

-- a critical section
unfoldable pub lock_data : CriticalSection → Data
lock_data c = table (put (codes "length") (integer (pos c.length)) (put (codes "start") (integer (pos c.start)) (put (codes "name") (string c.lock) no_members)))

-- critical sections, where there are some
abbrev pub with_locks : List CriticalSection → Members → Members
with_locks [] ms = ms
with_locks (c ∷ cs) ms = put (codes "locks") (array (items_of (map lock_data (c ∷ cs)))) ms

unfoldable pub task_data : SystemLists → Task → Data
task_data s t =
    table (with_locks t.locks (with_region t.region (with_turn t.turn (put (codes "worst") (integer (pos t.worst)) (put (codes "best") (integer (pos t.best)) (task_names_data s t))))))

abbrev pub with_deadline : Option ℕ → Members → Members
with_deadline None ms = ms
with_deadline (Some deadline) ms = put (codes "deadline") (integer (pos deadline)) ms

abbrev pub name_data : SystemLists → TaskId → Data
name_data s i = string (task_at s i.0).name

unfoldable pub path_data : SystemLists → Path → Data
path_data s p = table (with_deadline p.deadline (put (codes "tasks") (array (items_of (map (name_data s) p.tasks))) (put (codes "name") (string p.name) no_members)))

abbrev pub list_data : List Data → Data
list_data ds = array (items_of ds)

-- a task has one activator
abbrev pub has_one : Task → Bool
has_one t = length t.after == 1

-- the least format that can say a system of this size, where each task has one activator or some has several
abbrev pub format_for : Size → Bool → ℕ
format_for Small one = if one then 1 else 2
format_for Large one = 4

abbrev pub format_of : SystemLists → ℕ
format_of s = format_for s.size (list_all has_one s.tasks)

-- the document
unfoldable pub system_data : SystemLists → Data
system_data s =
    table (put (codes "path") (list_data (map (path_data s) s.paths)) (put (codes "task") (list_data (map (task_data s) s.tasks))
    (put (codes "source") (list_data (map source_data s.sources)) (put (codes "resource") (list_data (map resource_data s.resources)) (put (codes "format") (integer (pos (format_of s))) no_members)))))

-- the bytes are a document, which is the system's, laid out as `toml` prints one
pub record IsPrinted (s : SystemLists) (bytes : List ℕ) : Type 0 where
  pub members : Members
  pub document : document_of bytes ≡ Some members
  pub same : table members ≡ system_data s
  pub layout : IsDocumentText false members bytes
