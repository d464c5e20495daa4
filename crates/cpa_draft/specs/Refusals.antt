-- Why a draft is refused: the reasons in their order, and the first place of the first that applies.
use Rattle.std.specs.Prelude.{ℕ, ℤ, ◌+◌, ◌-◌, ◌&&◌, ◌||◌, ◌==◌, nat_le, nat_lt, if◌then◌else◌, not, Bool, true, false, List, [], ◌∷◌, Option, Some, None, is_some, is_none, unwrap_or, option_map, length, take, slice_index_or}
use Rattle.std.specs.List.{list_all, list_any, filter_map, range_with_len}
use Rattle.cpa_units.specs.Name.{is_name}
use Rattle.cpa_units.specs.declared.limits.Size.{Size}
use Rattle.cpa_units.specs.declared.limits.Size.TheVariants.{Small, Large}
use Rattle.cpa_units.specs.declared.limits.TheConstants.{MAX_CHAIN, MAX_PERIOD, MAX_JITTER, MAX_BIT, MAX_PRIORITY, MAX_PAYLOAD}
use Rattle.cpa_units.specs.Sizes.{most_resources, most_sources, most_tasks, most_paths, most_execution, most_region, most_gap, most_limit}
use Rattle.cpa_events.specs.declared.TheConstants.{MAX_STREAMS}
use Rattle.cpa_draft.specs.Numbers.{nat_of, nat_or, is_within, may_be_within}
use Rattle.cpa_draft.specs.First.{first_place, first_known}
use Rattle.cpa_draft.specs.DraftLists.{DraftLists}
use Rattle.cpa_draft.specs.Names.{resource_names, source_names, place_of, kind_of, link_of, links_of, is_nothing, is_task, is_after}
use Rattle.cpa_draft.specs.Chains.{first_longer, stream_count_within}
use Rattle.cpa_draft.specs.Clocks.{is_overlong}
use Rattle.cpa_draft.specs.declared.ports.TheConstants.{MAX_RATE, MAX_PORT_PAYLOAD}
use Rattle.cpa_draft.specs.declared.draft.DraftResource.{DraftResource}
use Rattle.cpa_draft.specs.declared.draft.DraftSource.{DraftSource}
use Rattle.cpa_draft.specs.declared.draft.DraftTask.{DraftTask}
use Rattle.cpa_draft.specs.declared.draft.DraftLock.{DraftLock}
use Rattle.cpa_draft.specs.declared.draft.TheConstants.{MAX_SECTIONS}
use Rattle.std.specs.Str.{bytes_eq}
use Rattle.cpa_draft.specs.declared.draft.DraftPath.{DraftPath}
use Rattle.cpa_draft.specs.declared.draft.KindWord.{KindWord}
use Rattle.cpa_draft.specs.declared.draft.KindWord.TheVariants as word
use Rattle.cpa_draft.specs.declared.refusal.Part.{Part}
use Rattle.cpa_draft.specs.declared.refusal.Part.TheVariants.{Resource, Source, Task, Path}
use Rattle.cpa_draft.specs.declared.refusal.Refusal.{Refusal}

-- the first of two answers
infixl 10 ◌or_else◌
abbrev pub ◌or_else◌ : {X : Type 0} → Option X → Option X → Option X
None or_else b = b
(Some x) or_else b = Some x

-- the refusal of a reason at a place, which counts from 0 in the list and from 1 in the refusal
abbrev pub refusal_at : ℕ → Part → Option ℕ → Option Refusal
refusal_at reason part None = None
refusal_at reason part (Some k) = Some (record { reason = reason; part = part; place = k + 1 })

-- the refusal for the first entry of a part that a reason applies to, by its place from 0 and the entry
abbrev pub first_marked : {X : Type 0} → ℕ → Part → (ℕ → X → Bool) → List X → Option Refusal
first_marked reason part marks xs = refusal_at reason part (first_place marks xs)

-- the same by the entry alone
abbrev pub first_with : {X : Type 0} → ℕ → Part → (X → Bool) → List X → Option Refusal
first_with reason part marks xs = first_marked reason part (λ k x. marks x) xs

abbrev pub is_fifo : KindWord → Bool
is_fifo word.Fifo = true
is_fifo _ = false

abbrev pub is_ceiling : KindWord → Bool
is_ceiling word.Ceiling = true
is_ceiling _ = false

-- whether the kind is one of large systems alone
abbrev pub is_later_kind : KindWord → Bool
is_later_kind kind = is_fifo kind || is_ceiling kind

-- no resource of a small system is of such a kind
abbrev pub kind_fits : Size → Bool → Bool
kind_fits Small later = not later
kind_fits Large later = true

-- the numbers of an entry are in their ranges, and its distance is at most its period
abbrev pub resource_fits : Size → DraftResource → Bool
resource_fits z r =
    may_be_within 1 (most_limit z) r.limit && may_be_within 0 (most_gap z) r.gap && may_be_within 1 MAX_BIT r.bit
    && may_be_within 1 MAX_RATE r.rate && kind_fits z (is_later_kind r.kind)

-- no source of a small system is sporadic
abbrev pub sporadic_fits : Size → Bool → Bool
sporadic_fits Small sporadic = not sporadic
sporadic_fits Large sporadic = true

-- no source of a small system is on a clock
abbrev pub clock_fits : Size → Bool → Bool
clock_fits Small on_clock = not on_clock
clock_fits Large on_clock = true

-- an offset stands beside a clock alone, and is below the period
abbrev pub offset_fits : Bool → ℤ → Option ℤ → Bool
offset_fits false period offset = is_none offset
offset_fits true period offset = may_be_within 0 (nat_of period - 1) offset

abbrev pub source_fits : Size → DraftSource → Bool
source_fits z r =
    is_within 1 MAX_PERIOD r.period && may_be_within 0 MAX_JITTER r.jitter && may_be_within 0 (nat_of r.period) r.distance
    && sporadic_fits z r.sporadic && clock_fits z (is_some r.clock) && offset_fits (is_some r.clock) r.period r.offset

-- a frame on a port has more room than one on a CAN bus
abbrev pub most_payload : Size → ℕ
most_payload Small = MAX_PAYLOAD
most_payload Large = MAX_PORT_PAYLOAD

-- the numbers of a critical section are in their ranges
abbrev pub lock_fits : DraftLock → Bool
lock_fits l = is_within 0 (most_execution Large) l.start && is_within 1 (most_execution Large) l.length

-- no task of a small system has critical sections
abbrev pub locks_fit : Size → List DraftLock → Bool
locks_fit Small locks = nat_le (length locks) 0
locks_fit Large locks = list_all lock_fits locks

abbrev pub task_fits : Size → DraftTask → Bool
task_fits z t =
    (may_be_within 1 (most_execution z) t.best && may_be_within 1 (most_execution z) t.worst)
    && may_be_within 0 (most_payload z) t.payload && may_be_within 0 MAX_PRIORITY t.priority
    && may_be_within 1 (most_execution z) t.slot && may_be_within 1 (most_region z) t.region && locks_fit z t.locks

abbrev pub path_fits : Size → DraftPath → Bool
path_fits z p = may_be_within 1 MAX_PERIOD p.deadline

-- 2: a number is out of its range
unfoldable pub out_of_range : DraftLists → Option Refusal
out_of_range d =
    first_with 2 Resource (λ r. not (resource_fits d.size r)) d.resources
    or_else first_with 2 Source (λ r. not (source_fits d.size r)) d.sources
    or_else first_with 2 Task (λ t. not (task_fits d.size t)) d.tasks
    or_else first_with 2 Path (λ p. not (path_fits d.size p)) d.paths

-- the name of a clock, where there is one, has the form of one
abbrev pub has_clock_name : Option (List ℕ) → Bool
has_clock_name None = true
has_clock_name (Some name) = is_name name

-- the names of locks have the form of one
abbrev pub have_lock_names : List DraftLock → Bool
have_lock_names locks = list_all (λ (l : DraftLock). is_name l.name) locks

-- 3: an entry's own name, or that of a source's clock or of a task's lock, hasn't the form of one
unfoldable pub no_name : DraftLists → Option Refusal
no_name d =
    first_with 3 Resource (λ (r : DraftResource). not (is_name r.name)) d.resources
    or_else first_with 3 Source (λ (r : DraftSource). not (is_name r.name && has_clock_name r.clock)) d.sources
    or_else first_with 3 Task (λ (t : DraftTask). not (is_name t.name && have_lock_names t.locks)) d.tasks
    or_else first_with 3 Path (λ (p : DraftPath). not (is_name p.name)) d.paths

-- 4: an earlier entry has the name; all sources are earlier than all tasks
unfoldable pub known_name : DraftLists → Option Refusal
known_name d =
    refusal_at 4 Resource (first_known (λ (r : DraftResource). r.name) [] d.resources)
    or_else refusal_at 4 Source (first_known (λ (r : DraftSource). r.name) [] d.sources)
    or_else refusal_at 4 Task (first_known (λ (t : DraftTask). t.name) (source_names d) d.tasks)
    or_else refusal_at 4 Path (first_known (λ (p : DraftPath). p.name) [] d.paths)

-- 5: `on`, a name in `after` or a name in `tasks` names nothing
unfoldable pub unknown_name : DraftLists → Option Refusal
unknown_name d =
    first_with 5 Task (λ t. is_none (place_of (resource_names d) t.on) || list_any (λ name. is_nothing (link_of d name)) t.after) d.tasks
    or_else first_with 5 Path (λ p. not (list_all (λ name. is_task (link_of d name)) p.tasks)) d.paths

-- 6: activators can be followed from the task without end
unfoldable pub endless : DraftLists → Option Refusal
endless d = refusal_at 6 Task (first_longer (links_of d) (length d.tasks))

-- 7: a chain up to the task has too many tasks
unfoldable pub long_chain : DraftLists → Option Refusal
long_chain d = refusal_at 7 Task (first_longer (links_of d) MAX_CHAIN)

-- whether tasks have priorities on a resource of this kind
abbrev pub by_priority : Option KindWord → Bool
by_priority (Some word.Preemptive) = true
by_priority (Some word.Can) = true
by_priority (Some word.Ceiling) = true
by_priority _ = false

-- the resource and the priority of a task that has a priority on a resource of such a kind
abbrev pub rank_of : DraftLists → DraftTask → Option (ℕ × ℕ)
rank_of d t =
    if by_priority (kind_of d t.on)
    then option_map (λ number. (unwrap_or (place_of (resource_names d) t.on) 0, nat_of number)) t.priority
    else None

abbrev pub same_rank : ℕ × ℕ → ℕ × ℕ → Bool
same_rank a b = (a.0 == b.0) && (a.1 == b.1)

-- a rank, if there is one, as a list
abbrev pub ranks_of : Option (ℕ × ℕ) → List (ℕ × ℕ)
ranks_of None = []
ranks_of (Some rank) = rank ∷ []

-- whether a rank is one of some
abbrev pub is_taken : Option (ℕ × ℕ) → List (ℕ × ℕ) → Bool
is_taken None ranks = false
is_taken (Some rank) ranks = list_any (same_rank rank) ranks

-- 8: an earlier task of the same resource has the priority
unfoldable pub known_priority : DraftLists → Option Refusal
known_priority d = first_marked 8 Task (λ k t. is_taken (rank_of d t) (filter_map (rank_of d) (take k d.tasks))) d.tasks

abbrev pub is_preemptive : KindWord → Bool
is_preemptive word.Preemptive = true
is_preemptive _ = false

abbrev pub is_tdma : KindWord → Bool
is_tdma word.Tdma = true
is_tdma _ = false

abbrev pub is_can : KindWord → Bool
is_can word.Can = true
is_can _ = false

-- a gap where the kind isn't tdma, a bit time where it isn't can, or a rate where it isn't fifo
abbrev pub resource_misfits : DraftResource → Bool
resource_misfits r =
    (is_some r.gap && not (is_tdma r.kind)) || (is_some r.bit && not (is_can r.kind)) || (is_some r.rate && not (is_fifo r.kind))

-- the priority or the slot is missing, or it isn't what the kind wants; a queue wants neither
abbrev pub turn_misfits : Option KindWord → DraftTask → Bool
turn_misfits (Some word.Preemptive) t = is_none t.priority || is_some t.slot
turn_misfits (Some word.Can) t = is_none t.priority || is_some t.slot
turn_misfits (Some word.Ceiling) t = is_none t.priority || is_some t.slot
turn_misfits (Some word.Fifo) t = is_some t.priority || is_some t.slot
turn_misfits _ t = is_some t.priority || is_none t.slot

-- a payload where there are no frames, or a longer one than a frame of the kind has room for
abbrev pub payload_misfits : KindWord → Option ℤ → Bool
payload_misfits word.Can payload = not (may_be_within 0 MAX_PAYLOAD payload)
payload_misfits word.Fifo payload = false
payload_misfits _ payload = is_some payload

-- whether a job may be preempted but for its regions
abbrev pub has_regions : KindWord → Bool
has_regions kind = is_preemptive kind || is_ceiling kind

-- critical sections where there are no ceilings
abbrev pub locks_misfit : KindWord → List DraftLock → Bool
locks_misfit kind locks = nat_lt 0 (length locks) && not (is_ceiling kind)

-- that, or a sort of frame where the kind isn't can, a region where there are none, or critical sections where there are none
abbrev pub task_misfits : Option KindWord → DraftTask → Bool
task_misfits kind t =
    turn_misfits kind t
    || payload_misfits (unwrap_or kind word.Preemptive) t.payload
    || (is_some t.extended && not (is_can (unwrap_or kind word.Preemptive)))
    || (is_some t.region && not (has_regions (unwrap_or kind word.Preemptive)))
    || locks_misfit (unwrap_or kind word.Preemptive) t.locks

-- 9: what an entry has doesn't fit the kind
unfoldable pub misfit : DraftLists → Option Refusal
misfit d =
    first_with 9 Resource resource_misfits d.resources
    or_else first_with 9 Task (λ (t : DraftTask). task_misfits (kind_of d t.on) t) d.tasks

-- 10: `best` is above `worst`
abbrev pub is_crossed : DraftTask → Bool
is_crossed t = (is_some t.best && is_some t.worst) && nat_lt (nat_or 0 t.worst) (nat_or 0 t.best)

unfoldable pub crossed : DraftLists → Option Refusal
crossed d = first_with 10 Task is_crossed d.tasks

-- the name of each task of a path but its last is among the activators of the next
abbrev pub is_linked : DraftLists → List (List ℕ) → Bool
is_linked d names =
    list_all (λ k. is_after d (slice_index_or names (k - 1) []) (link_of d (slice_index_or names k []))) (range_with_len 1 (length names - 1))

-- 11: a path has no task, or the one before a task in it isn't among its activators
unfoldable pub unlinked : DraftLists → Option Refusal
unlinked d = first_with 11 Path (λ (p : DraftPath). nat_le (length p.tasks) 0 || not (is_linked d p.tasks)) d.paths

-- 12: more entries than the limit
unfoldable pub too_many : DraftLists → Option Refusal
too_many d =
    first_marked 12 Resource (λ k r. nat_le (most_resources d.size) k) d.resources
    or_else first_marked 12 Source (λ k r. nat_le (most_sources d.size) k) d.sources
    or_else first_marked 12 Task (λ k t. nat_le (most_tasks d.size) k) d.tasks
    or_else first_marked 12 Path (λ k p. nat_le (most_paths d.size) k) d.paths

-- some name is there twice
abbrev pub has_double : List (List ℕ) → Bool
has_double names = is_some (first_known (λ name. name) [] names)

-- there is no activator, one is there twice, or the events of too many streams come together
abbrev pub is_misfed : DraftLists → ℕ → DraftTask → Bool
is_misfed d i t = (nat_le (length t.after) 0 || has_double t.after) || nat_lt MAX_STREAMS (stream_count_within (links_of d) MAX_CHAIN i)

-- 14: the activators of a task
unfoldable pub misfed : DraftLists → Option Refusal
misfed d = first_marked 14 Task (is_misfed d) d.tasks

-- 15: the cycle of a clock, with the sources up to this one, is too long, or has too many events
unfoldable pub too_long_clock : DraftLists → Option Refusal
too_long_clock d = first_marked 15 Source (λ k r. is_overlong r.clock (take (k + 1) d.sources)) d.sources

-- the first of two critical sections, which begins before the second, ends within it: they neither nest nor are apart
abbrev pub crosses : DraftLock → DraftLock → Bool
crosses a b =
    nat_lt (nat_of a.start) (nat_of b.start) && nat_lt (nat_of b.start) (nat_of a.start + nat_of a.length)
    && nat_lt (nat_of a.start + nat_of a.length) (nat_of b.start + nat_of b.length)

abbrev pub have_crossing : List DraftLock → Bool
have_crossing locks = list_any (λ a. list_any (crosses a) locks) locks

-- whether two tasks have a lock in common
abbrev pub share_lock : List DraftLock → List DraftLock → Bool
share_lock locks others = list_any (λ (a : DraftLock). list_any (λ (b : DraftLock). bytes_eq a.name b.name) others) locks

-- an earlier task with one of these locks is on another resource
abbrev pub is_elsewhere : DraftTask → DraftTask → Bool
is_elsewhere t other = share_lock t.locks other.locks && not (bytes_eq t.on other.on)

-- the critical sections of a task behind others are too many, or stand beside a region of more than a tick; two of them cross; or an earlier task
-- with one of their locks is on another resource
abbrev pub mislocked_after : List DraftTask → DraftTask → Bool
mislocked_after earlier t =
    nat_lt MAX_SECTIONS (length t.locks) || (nat_lt 0 (length t.locks) && nat_lt 1 (nat_or 1 t.region)) || have_crossing t.locks
    || list_any (is_elsewhere t) earlier

abbrev pub is_mislocked : DraftLists → ℕ → DraftTask → Bool
is_mislocked d i t = mislocked_after (take i d.tasks) t

-- 16: the critical sections of a task
unfoldable pub mislocked : DraftLists → Option Refusal
mislocked d = first_marked 16 Task (is_mislocked d) d.tasks

-- the reasons in their order
abbrev pub by_own_names : DraftLists → Option Refusal
by_own_names d = no_name d or_else known_name d

abbrev pub by_chains : DraftLists → Option Refusal
by_chains d = endless d or_else long_chain d

abbrev pub by_links : DraftLists → Option Refusal
by_links d = unknown_name d or_else by_chains d

abbrev pub by_kinds : DraftLists → Option Refusal
by_kinds d = known_priority d or_else misfit d or_else crossed d or_else unlinked d

-- the first reason that applies, with its first place
unfoldable pub first_refusal : DraftLists → Option Refusal
first_refusal d = out_of_range d or_else by_own_names d or_else by_links d or_else by_kinds d or_else too_many d or_else misfed d or_else too_long_clock d or_else mislocked d
