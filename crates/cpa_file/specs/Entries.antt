-- The entries of a system file, as they are read.
use Rattle.std.specs.Prelude.{ℕ, Bool, true, false, List, [], ◌∷◌, Option, Some, None, is_none, is_some, ◌||◌, unwrap_or, Result, Ok, Err, codes, if◌then◌else◌}
use Rattle.std.specs.Str.{bytes_eq}
use Rattle.toml.specs.Data.{Data, Items, as_str, as_integer, as_bool, as_array}
use Rattle.cpa_draft.specs.declared.draft.KindWord.{KindWord}
use Rattle.cpa_draft.specs.declared.draft.KindWord.TheVariants.{Preemptive, RoundRobin, Tdma, Can, Fifo, Ceiling}
use Rattle.cpa_draft.specs.declared.draft.DraftResource.{DraftResource}
use Rattle.cpa_draft.specs.declared.draft.DraftSource.{DraftSource}
use Rattle.cpa_draft.specs.declared.draft.DraftTask.{DraftTask}
use Rattle.cpa_draft.specs.declared.draft.DraftLock.{DraftLock}
use Rattle.cpa_draft.specs.declared.draft.DraftPath.{DraftPath}
use Rattle.cpa_model.specs.Built.{has_executions}
use Rattle.cpa_file.specs.declared.format.Format.{Format}
use Rattle.cpa_file.specs.Formats.{has_lists, has_more_of_tasks, has_later_kinds, has_more_of_sources}
use Rattle.cpa_file.specs.Lists.{read_all}
use Rattle.cpa_file.specs.Fields.{◌>>=◌, optional, required, has_only}

-- a kind that only some formats know
abbrev pub later_kind : Bool → KindWord → Option KindWord
later_kind true kind = Some kind
later_kind false kind = None

-- the word for a kind
abbrev pub kind_of_word : Bool → List ℕ → Option KindWord
kind_of_word later w =
    if bytes_eq w (codes "preemptive") then Some Preemptive
    else if bytes_eq w (codes "round-robin") then Some RoundRobin
    else if bytes_eq w (codes "tdma") then Some Tdma
    else if bytes_eq w (codes "can") then Some Can
    else if bytes_eq w (codes "fifo") then later_kind later Fifo
    else if bytes_eq w (codes "ceiling") then later_kind later Ceiling
    else None

abbrev pub as_kind : Bool → Data → Option KindWord
as_kind later d = as_str d >>= kind_of_word later

-- texts
abbrev pub list_or_none : {X : Type 0} → Result (List X) ℕ → Option (List X)
list_or_none (Ok xs) = Some xs
list_or_none (Err k) = None

abbrev pub texts_of : Option Items → Option (List (List ℕ))
texts_of None = None
texts_of (Some ds) = list_or_none (read_all as_str 1 ds)

abbrev pub as_texts : Data → Option (List (List ℕ))
as_texts d = texts_of (as_array d)

-- a text, which stands for the list of that one, or an array of texts where lists may be
abbrev pub one_or_texts : Bool → Option (List ℕ) → Data → Option (List (List ℕ))
one_or_texts lists (Some text) d = Some (text ∷ [])
one_or_texts true None d = as_texts d
one_or_texts false None d = None

abbrev pub as_after : Bool → Data → Option (List (List ℕ))
as_after lists d = one_or_texts lists (as_str d) d

-- the key of a resource that only some formats know
abbrev pub rate_key : Bool → List (List ℕ)
rate_key true = codes "rate" ∷ []
rate_key false = []

-- the keys that a resource may have
abbrev pub resource_keys : Format → List (List ℕ)
resource_keys format = codes "name" ∷ codes "kind" ∷ codes "limit" ∷ codes "gap" ∷ codes "bit" ∷ rate_key (has_later_kinds format)

-- those that nearly all resources have, and no others
abbrev pub usual_resource_keys : List (List ℕ)
usual_resource_keys = codes "name" ∷ codes "kind" ∷ codes "limit" ∷ codes "gap" ∷ codes "bit" ∷ []

-- the entry, if it has the form of a resource
unfoldable pub resource_entry : Format → Data → Option DraftResource
resource_entry format d = do
  name ← required as_str (codes "name") d
  kind ← required (as_kind (has_later_kinds format)) (codes "kind") d
  limit ← optional as_integer (codes "limit") d
  gap ← optional as_integer (codes "gap") d
  bit ← optional as_integer (codes "bit") d
  rate ← optional as_integer (codes "rate") d
  if has_only (resource_keys format) d
      then Some (record { name = name; kind = kind; limit = limit; gap = gap; bit = bit; rate = rate }) else None

-- the entry, if it has the form of a critical section
unfoldable pub lock_entry : Data → Option DraftLock
lock_entry d = do
  name ← required as_str (codes "name") d
  start ← required as_integer (codes "start") d
  length ← required as_integer (codes "length") d
  if has_only (codes "name" ∷ codes "start" ∷ codes "length" ∷ []) d
      then Some (record { name = name; start = start; length = length })
      else None

-- critical sections
abbrev pub locks_of : Option Items → Option (List DraftLock)
locks_of None = None
locks_of (Some ds) = list_or_none (read_all lock_entry 1 ds)

abbrev pub as_locks : Data → Option (List DraftLock)
as_locks d = locks_of (as_array d)

-- the keys of a task that only some formats know
abbrev pub more_task_keys : Bool → List (List ℕ)
more_task_keys true = codes "region" ∷ codes "locks" ∷ []
more_task_keys false = []

-- the keys that a task may have
abbrev pub task_keys : Format → List (List ℕ)
task_keys format =
    codes "name" ∷ codes "on" ∷ codes "after" ∷ codes "best" ∷ codes "worst" ∷ codes "payload" ∷ codes "extended" ∷ codes "priority" ∷ codes "slot" ∷ more_task_keys (has_more_of_tasks format)

-- those that nearly all tasks have, and no others
abbrev pub usual_keys : List (List ℕ)
usual_keys = codes "after" ∷ codes "best" ∷ codes "name" ∷ codes "on" ∷ codes "priority" ∷ codes "slot" ∷ codes "worst" ∷ []

-- the keys of a task, each of its type
unfoldable pub task_fields : Format → Data → Option DraftTask
task_fields format d = do
  name ← required as_str (codes "name") d
  on ← required as_str (codes "on") d
  after ← required (as_after (has_lists format)) (codes "after") d
  best ← optional as_integer (codes "best") d
  worst ← optional as_integer (codes "worst") d
  payload ← optional as_integer (codes "payload") d
  extended ← optional as_bool (codes "extended") d
  priority ← optional as_integer (codes "priority") d
  slot ← optional as_integer (codes "slot") d
  region ← optional as_integer (codes "region") d
  locks ← optional as_locks (codes "locks") d
  if has_only (task_keys format) d
      then Some (record { name = name; on = on; after = after; best = best; worst = worst; payload = payload; extended = extended; priority = priority; slot = slot; region = region; locks = unwrap_or locks [] })
      else None

-- the task, if its executions stand in one of the two ways
abbrev pub with_executions : DraftTask → Option DraftTask
with_executions t = if has_executions t then Some t else None

-- the entry, if it has the form of a task
unfoldable pub task_entry : Format → Data → Option DraftTask
task_entry format d = task_fields format d >>= with_executions

-- the keys of a source that only some formats know
abbrev pub more_source_keys : Bool → List (List ℕ)
more_source_keys true = codes "sporadic" ∷ codes "clock" ∷ codes "offset" ∷ []
more_source_keys false = []

-- the keys that a source may have
abbrev pub source_keys : Format → List (List ℕ)
source_keys format = codes "name" ∷ codes "period" ∷ codes "jitter" ∷ codes "distance" ∷ more_source_keys (has_more_of_sources format)

-- those that nearly all sources have, and no others
abbrev pub usual_source_keys : List (List ℕ)
usual_source_keys = codes "name" ∷ codes "period" ∷ codes "jitter" ∷ codes "distance" ∷ []

-- the keys of a source, each of its type
unfoldable pub source_fields : Format → Data → Option DraftSource
source_fields format d = do
  name ← required as_str (codes "name") d
  period ← required as_integer (codes "period") d
  jitter ← optional as_integer (codes "jitter") d
  distance ← optional as_integer (codes "distance") d
  sporadic ← optional as_bool (codes "sporadic") d
  clock ← optional as_str (codes "clock") d
  offset ← optional as_integer (codes "offset") d
  if has_only (source_keys format) d
      then Some (record { name = name; period = period; jitter = jitter; distance = distance; sporadic = unwrap_or sporadic false; clock = clock; offset = offset })
      else None

-- an offset, where there is one, stands beside a clock
abbrev pub has_offset_on_clock : DraftSource → Bool
has_offset_on_clock r = is_none r.offset || is_some r.clock

abbrev pub with_offset_on_clock : DraftSource → Option DraftSource
with_offset_on_clock r = if has_offset_on_clock r then Some r else None

-- the entry, if it has the form of a source
unfoldable pub source_entry : Format → Data → Option DraftSource
source_entry format d = source_fields format d >>= with_offset_on_clock

-- the entry, if it has the form of a path
unfoldable pub path_entry : Data → Option DraftPath
path_entry d = do
  name ← required as_str (codes "name") d
  tasks ← required as_texts (codes "tasks") d
  deadline ← optional as_integer (codes "deadline") d
  if has_only (codes "name" ∷ codes "tasks" ∷ codes "deadline" ∷ []) d
      then Some (record { name = name; tasks = tasks; deadline = deadline })
      else None
