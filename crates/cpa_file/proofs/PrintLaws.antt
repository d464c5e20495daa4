-- What is printed is read as the draft that says the same.
use Rattle.std.proofs.Common.{get_or, ◌≡◌, ℕ, suc, ◌+◌, ◌≤◌, Bool, true, false, List, [], ◌∷◌, map, length, inl, inr, Option, Some, None, Ok, String, Global, Ordering, Less, Equal, Greater, string_bytes, refl, sym, subst, ◌∙◌, arith}
use Rattle.std.specs.Prelude.{◌==◌, ◌&&◌, not, is_some, is_none}
use Rattle.std.specs.List.{list_all}
use Rattle.std.proofs.lemmas.Bool.{cases_Bool, and_parts, and_from, not-true, false≢true, eqb-true, eq-eqb}
use Rattle.std.proofs.lemmas.List.Sums.{list_all-from_AllPass}
use Rattle.std.proofs.lemmas.Bool.Decides.{nat_tests}
use Rattle.std.specs.Ordering.{match_ordering}
use Rattle.std.specs.String.{string_cmp}
use Rattle.std.specs.BTreeMap.{insert_entry}
use Rattle.toml.specs.Data.{Data, Members, items_depth, members_depth, depth, array, table, as_str, has_valid_dates, items_have_valid_dates, members_have_valid_dates}
use Rattle.toml.specs.View.{view, members_view, items_of}
use Rattle.toml.specs.declared.value.Value.{Value}
use Rattle.cpa_units.specs.declared.limits.Size.{Size}
use Rattle.cpa_units.specs.declared.limits.Size.TheVariants.{Small, Large}
use Rattle.cpa_units.specs.Sizes.{most_region}
use Rattle.cpa_units.specs.declared.places.TaskId.{TaskId}
use Rattle.cpa_model.specs.declared.entries.Resource.{Resource}
use Rattle.cpa_model.specs.declared.entries.Source.{Source}
use Rattle.cpa_model.specs.declared.entries.OnClock.{OnClock}
use Rattle.cpa_model.specs.declared.entries.Task.{Task}
use Rattle.cpa_model.specs.declared.entries.Path.{Path}
use Rattle.cpa_model.specs.declared.locks.CriticalSection.{CriticalSection}
use Rattle.cpa_model.specs.declared.entries.Kind.{Kind}
use Rattle.cpa_model.specs.declared.entries.Kind.TheVariants.{Preemptive, RoundRobin, Tdma, Can, Fifo, Ceiling}
use Rattle.cpa_model.specs.declared.entries.Turn.{Turn}
use Rattle.cpa_model.specs.declared.entries.Turn.TheVariants.{Priority, Slot, Queued}
use Rattle.cpa_model.specs.SystemLists.{SystemLists, no_resource, resource_at, task_at, activator_name}
use Rattle.cpa_model.specs.Kinds.{is_later_kind}
use Rattle.cpa_model.specs.Rules.{IsSystem, LocksFit}
use Rattle.cpa_draft.specs.Refusals.{kind_fits, sporadic_fits, clock_fits}
use Rattle.cpa_model.proofs.SystemLaws.{region-range}
use Rattle.cpa_file.specs.declared.format.Format.{Format}
use Rattle.cpa_file.specs.declared.format.Format.TheVariants.{One, Two, Four}
use Rattle.cpa_file.specs.Fields.{required, optional, has_only}
use Rattle.cpa_file.specs.Formats.{has_lists}
use Rattle.cpa_file.specs.Lists.{read_all}
use Rattle.cpa_file.specs.Entries.{resource_entry, source_fields, source_entry, as_after, lock_entry, as_locks, task_entry, task_fields, path_entry}
use Rattle.cpa_file.specs.Document.{draft_of, lists_of, has_form, entries_at, items_at}
use Rattle.cpa_model.specs.declared.entries.Activator.{Activator}
use Rattle.cpa_model.specs.Redraft.{redraft_resource, redraft_source, redraft_section, redraft_task, redraft_path, redraft}
use Rattle.cpa_file.specs.Printed.{put, resource_data, source_numbers_data, source_data, activator_data, after_data, task_names_data, lock_data, task_data, has_one, name_data, path_data, system_data}

-- a region of no more than a tick
abbrev has_no_region : Task → Bool
has_no_region t = t.region == 1

abbrev has_no_locks : List CriticalSection → Bool
has_no_locks [] = true
has_no_locks (c ∷ cs) = false

-- neither a region nor critical sections
abbrev is_simple : Task → Bool
is_simple t = has_no_region t && has_no_locks t.locks

-- a resource of a kind that each format knows
abbrev is_usual : Resource → Bool
is_usual r = not (is_later_kind r.kind)

-- a source that isn't sporadic, and on no clock
abbrev is_plain : Source → Bool
is_plain r = not r.sporadic && is_none r.on_clock

put_by : (o : Ordering) (a b c : List (String Global × Value)) → members_view (match_ordering o a b c) ≡ match_ordering o (members_view a) (members_view b) (members_view c)
put_by Less a b c = refl
put_by Equal a b c = refl
put_by Greater a b c = refl

-- an insert into the map of a table
pub members_view-insert_entry : (es : List (String Global × Value)) (k : String Global) (v : Value) → members_view (insert_entry string_cmp es k v) ≡ put (string_bytes k) (view v) (members_view es)
members_view-insert_entry [] k v = refl
members_view-insert_entry (e ∷ es) k v = put_by (string_cmp k e.0) _ _ _ ∙ rw (members_view-insert_entry es k v)

-- each list of entries is read as the drafts of its entries
pub read_all-printed : {X Y : Type 0} (read : Data → Option Y) (data_of : X → Data) (redraft : X → Y) → ((x : X) → read (data_of x) ≡ Some (redraft x))
    → (k : ℕ) (xs : List X) → read_all read k (items_of (map data_of xs)) ≡ Ok (map redraft xs)
read_all-printed read data_of redraft each k [] = refl
read_all-printed read data_of redraft each k (x ∷ xs) = rw (each x, read_all-printed read data_of redraft each (k + 1) xs) refl

-- such a resource is read in each format
plain_resource_by : (format : Format) (n : List ℕ) (k : Kind) (l : ℕ) → not (is_later_kind k) ≡ true → let r : Resource = record { name = n; kind = k; limit = l } in resource_entry format (resource_data r) ≡ Some (redraft_resource r)
unfolding resource_entry resource_data required optional has_only
plain_resource_by format n Preemptive l h = refl
plain_resource_by format n RoundRobin l h = refl
plain_resource_by format n (Tdma gap) l h = refl
plain_resource_by format n (Can bit) l h = refl
plain_resource_by format n Fifo l h = absurd (false≢true h)
plain_resource_by format n Ceiling l h = absurd (false≢true h)

-- and any resource in format 4
resource_by : (n : List ℕ) (k : Kind) (l : ℕ) → let r : Resource = record { name = n; kind = k; limit = l } in resource_entry Four (resource_data r) ≡ Some (redraft_resource r)
unfolding resource_entry resource_data required optional has_only
resource_by n Preemptive l = refl
resource_by n RoundRobin l = refl
resource_by n (Tdma gap) l = refl
resource_by n (Can bit) l = refl
resource_by n Fifo l = refl
resource_by n Ceiling l = refl

resource-printed : (r : Resource) → resource_entry Four (resource_data r) ≡ Some (redraft_resource r)
resource-printed r = resource_by r.name r.kind r.limit

plain_resources-printed : (format : Format) (k : ℕ) (rs : List Resource) → list_all is_usual rs ≡ true → read_all (resource_entry format) k (items_of (map resource_data rs)) ≡ Ok (map redraft_resource rs)
plain_resources-printed format k [] h = refl
plain_resources-printed format k (r ∷ rs) h =
    let here = and_parts (is_usual r) (list_all is_usual rs) h in
    rw (plain_resource_by format r.name r.kind r.limit here.0, plain_resources-printed format (k + 1) rs here.1) refl

-- a plain source is read in each format
plain_source_by : (format : Format) (r : Source) → r.sporadic ≡ false → r.on_clock ≡ None → source_entry format (source_data r) ≡ Some (redraft_source r)
unfolding source_entry source_fields source_data source_numbers_data required optional has_only
plain_source_by format r h off = rw (h, off) refl

-- and any source in format 4
source_by : (r : Source) (sporadic : Bool) (on : Option OnClock) → r.sporadic ≡ sporadic → r.on_clock ≡ on → source_entry Four (source_data r) ≡ Some (redraft_source r)
unfolding source_entry source_fields source_data source_numbers_data required optional has_only
source_by r true None h off = rw (h, off) refl
source_by r false None h off = rw (h, off) refl
source_by r true (Some o) h on = elim (cases_Bool (o.offset == 0)) [
  | inl first ↦ rw (h, on, first) refl
  | inr later ↦ rw (h, on, later) refl
]
source_by r false (Some o) h on = elim (cases_Bool (o.offset == 0)) [
  | inl first ↦ rw (h, on, first) refl
  | inr later ↦ rw (h, on, later) refl
]

source-printed : (r : Source) → source_entry Four (source_data r) ≡ Some (redraft_source r)
source-printed r = source_by r r.sporadic r.on_clock refl refl

no_clock : (on : Option OnClock) → is_none on ≡ true → on ≡ None
no_clock None h = refl
no_clock (Some o) h = absurd (false≢true h)

plain_sources-printed : (format : Format) (k : ℕ) (rs : List Source) → list_all is_plain rs ≡ true → read_all (source_entry format) k (items_of (map source_data rs)) ≡ Ok (map redraft_source rs)
plain_sources-printed format k [] h = refl
plain_sources-printed format k (r ∷ rs) h =
    let here = and_parts (is_plain r) (list_all is_plain rs) h in
    let plain = and_parts (not r.sporadic) (is_none r.on_clock) here.0 in
    rw (plain_source_by format r (not-true _ plain.0) (no_clock r.on_clock plain.1), plain_sources-printed format (k + 1) rs here.1) refl

-- activators are read as their names: one where it stands alone, and each list where lists may be
activators-printed : (s : SystemLists) (after : List Activator) → read_all as_str 1 (items_of (map (activator_data s) after)) ≡ Ok (map (activator_name s) after)
activators-printed s after = read_all-printed as_str (activator_data s) (activator_name s) (λ a. refl) 1 after

one-printed : (lists : Bool) (s : SystemLists) (after : List Activator) → (length after == 1) ≡ true → as_after lists (after_data s after) ≡ Some (map (activator_name s) after)
one-printed lists s [] h = absurd (false≢true h)
one-printed lists s (a ∷ []) h = refl
one-printed lists s (a ∷ b ∷ after) h = let p : suc (suc (length after)) ≡ 1 = eqb-true _ _ h in absurd (omega arith)

list-printed : (s : SystemLists) (after : List Activator) → as_after true (after_data s after) ≡ Some (map (activator_name s) after)
list-printed s [] = refl
list-printed s (a ∷ []) = refl
list-printed s (a ∷ b ∷ after) = rw (activators-printed s (a ∷ b ∷ after)) refl

-- critical sections are read as they were
lock-printed : (c : CriticalSection) → lock_entry (lock_data c) ≡ Some (redraft_section c)
unfolding lock_entry lock_data required has_only
lock-printed c = refl

locks-printed : (cs : List CriticalSection) → as_locks (array (items_of (map lock_data cs))) ≡ Some (map redraft_section cs)
locks-printed cs = rw (read_all-printed lock_entry lock_data redraft_section lock-printed 1 cs) refl

-- a task with neither a region nor critical sections is read in each format in which its activators are
plain_by : (format : Format) (s : SystemLists) (t : Task) (turn : Turn) → has_no_region t ≡ true → as_after (has_lists format) (after_data s t.after) ≡ Some (map (activator_name s) t.after)
    → let u : Task = record t { turn = turn; locks = [] } in task_entry format (task_data s u) ≡ Some (redraft_task s u)
unfolding task_entry task_fields task_data task_names_data required optional has_only
plain_by format s t (Priority number) plain after = rw (plain, after) refl
plain_by format s t (Slot ticks) plain after = rw (plain, after) refl
plain_by format s t Queued plain after = rw (plain, after) refl

-- and any task in format 4
task_by : (s : SystemLists) (t : Task) (turn : Turn) (locks : List CriticalSection) (plain : Bool) → has_no_region t ≡ plain
    → let u : Task = record t { turn = turn; locks = locks } in task_entry Four (task_data s u) ≡ Some (redraft_task s u)
unfolding task_entry task_fields task_data task_names_data required optional has_only
task_by s t (Priority number) [] true is = rw (is, list-printed s t.after) refl
task_by s t (Priority number) [] false is = rw (is, list-printed s t.after) refl
task_by s t (Priority number) (c ∷ cs) true is = rw (is, list-printed s t.after, locks-printed (c ∷ cs)) refl
task_by s t (Priority number) (c ∷ cs) false is = rw (is, list-printed s t.after, locks-printed (c ∷ cs)) refl
task_by s t (Slot ticks) [] true is = rw (is, list-printed s t.after) refl
task_by s t (Slot ticks) [] false is = rw (is, list-printed s t.after) refl
task_by s t (Slot ticks) (c ∷ cs) true is = rw (is, list-printed s t.after, locks-printed (c ∷ cs)) refl
task_by s t (Slot ticks) (c ∷ cs) false is = rw (is, list-printed s t.after, locks-printed (c ∷ cs)) refl
task_by s t Queued [] true is = rw (is, list-printed s t.after) refl
task_by s t Queued [] false is = rw (is, list-printed s t.after) refl
task_by s t Queued (c ∷ cs) true is = rw (is, list-printed s t.after, locks-printed (c ∷ cs)) refl
task_by s t Queued (c ∷ cs) false is = rw (is, list-printed s t.after, locks-printed (c ∷ cs)) refl

task-printed : (s : SystemLists) (t : Task) → task_entry Four (task_data s t) ≡ Some (redraft_task s t)
task-printed s t = task_by s t t.turn t.locks (has_no_region t) refl

no-locks : (cs : List CriticalSection) → has_no_locks cs ≡ true → cs ≡ []
no-locks [] h = refl
no-locks (c ∷ cs) h = absurd (false≢true h)

simple-printed : (format : Format) (s : SystemLists) (t : Task) → is_simple t ≡ true → as_after (has_lists format) (after_data s t.after) ≡ Some (map (activator_name s) t.after) → task_entry format (task_data s t) ≡ Some (redraft_task s t)
simple-printed format s t simple after =
    let parts = and_parts (has_no_region t) (has_no_locks t.locks) simple in
    let none : [] ≡ t.locks = sym (no-locks t.locks parts.1) in
    subst (λ (cs : List CriticalSection). let u : Task = record t { locks = cs } in task_entry format (task_data s u) ≡ Some (redraft_task s u)) none (plain_by format s t t.turn parts.0 after)

two-printed : (s : SystemLists) (k : ℕ) (ts : List Task) → list_all is_simple ts ≡ true → read_all (task_entry Two) k (items_of (map (task_data s) ts)) ≡ Ok (map (redraft_task s) ts)
two-printed s k [] plain = refl
two-printed s k (t ∷ ts) plain =
    let here = and_parts (is_simple t) (list_all is_simple ts) plain in
    rw (simple-printed Two s t here.0 (list-printed s t.after), two-printed s (k + 1) ts here.1) refl

one_each-printed : (s : SystemLists) (k : ℕ) (ts : List Task) → list_all is_simple ts ≡ true → list_all has_one ts ≡ true → read_all (task_entry One) k (items_of (map (task_data s) ts)) ≡ Ok (map (redraft_task s) ts)
one_each-printed s k [] plain one = refl
one_each-printed s k (t ∷ ts) plain one =
    let here = and_parts (is_simple t) (list_all is_simple ts) plain in
    let own = and_parts (has_one t) (list_all has_one ts) one in
    rw (simple-printed One s t here.0 (one-printed false s t.after own.0), one_each-printed s (k + 1) ts here.1 own.1) refl

names-printed : (s : SystemLists) (ts : List TaskId) → read_all as_str 1 (items_of (map (name_data s) ts)) ≡ Ok (map (λ (i : TaskId). (task_at s i.0).name) ts)
names-printed s ts = read_all-printed as_str (name_data s) (λ (i : TaskId). (task_at s i.0).name) (λ i. refl) 1 ts

path_by : (s : SystemLists) (p : Path) (deadline : Option ℕ) → let q : Path = record p { deadline = deadline } in path_entry (path_data s q) ≡ Some (redraft_path s q)
unfolding path_entry path_data required optional has_only
path_by s p None = rw (names-printed s p.tasks) refl
path_by s p (Some deadline) = rw (names-printed s p.tasks) refl

path-printed : (s : SystemLists) (p : Path) → path_entry (path_data s p) ≡ Some (redraft_path s p)
path-printed s p = path_by s p p.deadline

-- the document of a system is read as its draft: that of a small one has no region, no critical section, and no resource of a later kind
draft_by : (z : Size) (s : SystemLists) → (z ≡ Small → list_all is_simple s.tasks ≡ true) → (z ≡ Small → list_all is_plain s.sources ≡ true) → (z ≡ Small → list_all is_usual s.resources ≡ true) → let u : SystemLists = record s { size = z } in draft_of (system_data u) ≡ Ok (redraft u)
unfolding draft_of lists_of has_form entries_at items_at system_data has_only redraft
draft_by Small s plain steady usual =
    let u : SystemLists = record s { size = Small } in
    elim (cases_Bool (list_all has_one s.tasks)) [
      | inl one ↦
          rw (
            one,
            plain_resources-printed One 1 s.resources (usual refl),
            plain_sources-printed One 1 s.sources (steady refl),
            one_each-printed u 1 s.tasks (plain refl) one,
            read_all-printed path_entry (path_data u) (redraft_path u) (path-printed u) 1 s.paths,
          )
          refl
      | inr several ↦
          rw (
            several,
            plain_resources-printed Two 1 s.resources (usual refl),
            plain_sources-printed Two 1 s.sources (steady refl),
            two-printed u 1 s.tasks (plain refl),
            read_all-printed path_entry (path_data u) (redraft_path u) (path-printed u) 1 s.paths,
          )
          refl
    ]
draft_by Large s plain steady usual =
    let u : SystemLists = record s { size = Large } in
    rw (
      read_all-printed (resource_entry Four) resource_data redraft_resource resource-printed 1 s.resources,
      read_all-printed (source_entry Four) source_data redraft_source source-printed 1 s.sources,
      read_all-printed (task_entry Four) (task_data u) (redraft_task u) (task-printed u) 1 s.tasks,
      read_all-printed path_entry (path_data u) (redraft_path u) (path-printed u) 1 s.paths,
    )
    refl

no-region : (t : Task) → 1 ≤ t.region → t.region ≤ 1 → has_no_region t ≡ true
no-region t some few = eq-eqb t.region 1 (omega arith)

-- only under ceilings has a task critical sections
locks-none : (k : Kind) (region : ℕ) (locks : List CriticalSection) → LocksFit k region locks → not (is_later_kind k) ≡ true → has_no_locks locks ≡ true
locks-none Preemptive region locks fits usual = rw fits refl
locks-none RoundRobin region locks fits usual = rw fits refl
locks-none (Tdma gap) region locks fits usual = rw fits refl
locks-none (Can bit) region locks fits usual = rw fits refl
locks-none Fifo region locks fits usual = rw fits refl
locks-none Ceiling region locks fits usual = absurd (false≢true usual)

usual-small : (z : Size) (later : Bool) → z ≡ Small → kind_fits z later ≡ true → not later ≡ true
usual-small Large later small h = cc
usual-small Small later small h = h

no-regions : (s : SystemLists) → IsSystem s → s.size ≡ Small → list_all is_simple s.tasks ≡ true
no-regions s rules small =
    list_all-from_AllPass is_simple s.tasks
    (λ k t less.
    let u = get_or s.tasks k t in
    let fits = rules.tasks k t less in
    let r = resource_at s u.res.0 in
    let most : u.region ≤ most_region Small = subst (λ z. u.region ≤ most_region z) small (rules.sized.times k t less).region in
    let usual = usual-small s.size (is_later_kind r.kind) small (rules.sized.limits u.res.0 no_resource fits.placed).2 in
    and_from (has_no_region u) (has_no_locks u.locks) (no-region u (region-range r.kind u.region fits.region_fits).0 most) (locks-none r.kind u.region u.locks fits.locks_fit usual))

plain-small : (z : Size) (sporadic : Bool) (on : Option OnClock) → z ≡ Small → sporadic_fits z sporadic ≡ true → clock_fits z (is_some on) ≡ true → (not sporadic && is_none on) ≡ true
plain-small Large sporadic on small p q = cc
plain-small Small sporadic None small p q = rw p refl
plain-small Small sporadic (Some o) small p q = absurd (false≢true q)

plain-sources : (s : SystemLists) → IsSystem s → s.size ≡ Small → list_all is_plain s.sources ≡ true
plain-sources s rules small =
    list_all-from_AllPass is_plain s.sources
    (λ k r less. let sized = rules.sized.arrivals k r less in let u = get_or s.sources k r in plain-small s.size u.sporadic u.on_clock small sized.0 sized.1)

usual-resources : (s : SystemLists) → IsSystem s → s.size ≡ Small → list_all is_usual s.resources ≡ true
usual-resources s rules small =
    list_all-from_AllPass is_usual s.resources
    (λ k r less. let u = get_or s.resources k r in usual-small s.size (is_later_kind u.kind) small (rules.sized.limits k r less).2)

pub draft_of-printed : (s : SystemLists) → IsSystem s → draft_of (system_data s) ≡ Ok (redraft s)
draft_of-printed s rules = draft_by s.size s (no-regions s rules) (plain-sources s rules) (usual-resources s rules)

-- no printed document is deep

module _ {X : Type 0} (data_of : X → Data) (most : ℕ) (each : (x : X) → depth (data_of x) ≤ most) where
  pub items-depth : (xs : List X) → items_depth (items_of (map data_of xs)) ≤ most
  items-depth [] = omega arith
  items-depth (x ∷ xs) = grind (arith, nat_tests, each x, items-depth xs)

resource-depth_by : (n : List ℕ) (k : Kind) (l : ℕ) → let r : Resource = record { name = n; kind = k; limit = l } in depth (resource_data r) ≤ 2
unfolding resource_data
resource-depth_by n Preemptive l = omega arith
resource-depth_by n RoundRobin l = omega arith
resource-depth_by n (Tdma gap) l = omega arith
resource-depth_by n (Can bit) l = omega arith
resource-depth_by n Fifo l = omega arith
resource-depth_by n Ceiling l = omega arith

resource-depth : (r : Resource) → depth (resource_data r) ≤ 2
resource-depth r = resource-depth_by r.name r.kind r.limit

source-depth_by : (r : Source) (sporadic : Bool) (on : Option OnClock) → r.sporadic ≡ sporadic → r.on_clock ≡ on → depth (source_data r) ≤ 2
unfolding source_data source_numbers_data
source-depth_by r true None is off = rw (is, off) (omega arith)
source-depth_by r false None is off = rw (is, off) (omega arith)
source-depth_by r true (Some o) is on = elim (cases_Bool (o.offset == 0)) [
  | inl first ↦ rw (is, on, first) (omega arith)
  | inr later ↦ rw (is, on, later) (omega arith)
]
source-depth_by r false (Some o) is on = elim (cases_Bool (o.offset == 0)) [
  | inl first ↦ rw (is, on, first) (omega arith)
  | inr later ↦ rw (is, on, later) (omega arith)
]

source-depth : (r : Source) → depth (source_data r) ≤ 2
source-depth r = source-depth_by r r.sporadic r.on_clock refl refl

after-depth : (s : SystemLists) (after : List Activator) → depth (after_data s after) ≤ 1
after-depth s [] = omega arith
after-depth s (a ∷ []) = omega arith
after-depth s (a ∷ b ∷ after) = omega (arith, items-depth (activator_data s) 0 (λ a. omega arith) (a ∷ b ∷ after))

lock-depth : (c : CriticalSection) → depth (lock_data c) ≤ 1
unfolding lock_data
lock-depth c = omega arith

task-depth_by : (s : SystemLists) (t : Task) (turn : Turn) (locks : List CriticalSection) (plain : Bool) → has_no_region t ≡ plain → let u : Task = record t { turn = turn; locks = locks } in depth (task_data s u) ≤ 3
unfolding task_data task_names_data
task-depth_by s t (Priority number) [] true is = rw is (omega (arith, after-depth s t.after))
task-depth_by s t (Priority number) [] false is = rw is (omega (arith, after-depth s t.after))
task-depth_by s t (Priority number) (c ∷ cs) true is = rw is (omega (arith, after-depth s t.after, items-depth lock_data 1 lock-depth (c ∷ cs)))
task-depth_by s t (Priority number) (c ∷ cs) false is = rw is (omega (arith, after-depth s t.after, items-depth lock_data 1 lock-depth (c ∷ cs)))
task-depth_by s t (Slot ticks) [] true is = rw is (omega (arith, after-depth s t.after))
task-depth_by s t (Slot ticks) [] false is = rw is (omega (arith, after-depth s t.after))
task-depth_by s t (Slot ticks) (c ∷ cs) true is = rw is (omega (arith, after-depth s t.after, items-depth lock_data 1 lock-depth (c ∷ cs)))
task-depth_by s t (Slot ticks) (c ∷ cs) false is = rw is (omega (arith, after-depth s t.after, items-depth lock_data 1 lock-depth (c ∷ cs)))
task-depth_by s t Queued [] true is = rw is (omega (arith, after-depth s t.after))
task-depth_by s t Queued [] false is = rw is (omega (arith, after-depth s t.after))
task-depth_by s t Queued (c ∷ cs) true is = rw is (omega (arith, after-depth s t.after, items-depth lock_data 1 lock-depth (c ∷ cs)))
task-depth_by s t Queued (c ∷ cs) false is = rw is (omega (arith, after-depth s t.after, items-depth lock_data 1 lock-depth (c ∷ cs)))

task-depth : (s : SystemLists) (t : Task) → depth (task_data s t) ≤ 3
task-depth s t = task-depth_by s t t.turn t.locks (has_no_region t) refl

path-depth_by : (s : SystemLists) (p : Path) (deadline : Option ℕ) → let q : Path = record p { deadline = deadline } in depth (path_data s q) ≤ 2
unfolding path_data
path-depth_by s p None = omega (arith, items-depth (name_data s) 0 (λ i. omega arith) p.tasks)
path-depth_by s p (Some deadline) = omega (arith, items-depth (name_data s) 0 (λ i. omega arith) p.tasks)

path-depth : (s : SystemLists) (p : Path) → depth (path_data s p) ≤ 2
path-depth s p = path-depth_by s p p.deadline

system-depth : (s : SystemLists) → depth (system_data s) ≤ 5
unfolding system_data
system-depth s =
    omega (
      arith,
      items-depth resource_data 2 resource-depth s.resources,
      items-depth source_data 2 source-depth s.sources,
      items-depth (task_data s) 3 (task-depth s) s.tasks,
      items-depth (path_data s) 2 (path-depth s) s.paths,
    )

pub shallow : (s : SystemLists) (ms : Members) → table ms ≡ system_data s → members_depth ms ≤ 80
shallow s ms e = let h : depth (table ms) ≤ 5 = subst (λ (d : Data). depth d ≤ 5) (sym e) (system-depth s) in omega arith

-- no printed document has a date

module _ {X : Type 0} (data_of : X → Data) (each : (x : X) → has_valid_dates (data_of x) ≡ true) where
  pub items-undated : (xs : List X) → items_have_valid_dates (items_of (map data_of xs)) ≡ true
  items-undated [] = refl
  items-undated (x ∷ xs) = rw (each x, items-undated xs) refl

resource-undated_by : (n : List ℕ) (k : Kind) (l : ℕ) → let r : Resource = record { name = n; kind = k; limit = l } in has_valid_dates (resource_data r) ≡ true
unfolding resource_data
resource-undated_by n Preemptive l = refl
resource-undated_by n RoundRobin l = refl
resource-undated_by n (Tdma gap) l = refl
resource-undated_by n (Can bit) l = refl
resource-undated_by n Fifo l = refl
resource-undated_by n Ceiling l = refl

resource-undated : (r : Resource) → has_valid_dates (resource_data r) ≡ true
resource-undated r = resource-undated_by r.name r.kind r.limit

source-undated_by : (r : Source) (sporadic : Bool) (on : Option OnClock) → r.sporadic ≡ sporadic → r.on_clock ≡ on → has_valid_dates (source_data r) ≡ true
unfolding source_data source_numbers_data
source-undated_by r true None is off = rw (is, off) refl
source-undated_by r false None is off = rw (is, off) refl
source-undated_by r true (Some o) is on = elim (cases_Bool (o.offset == 0)) [
  | inl first ↦ rw (is, on, first) refl
  | inr later ↦ rw (is, on, later) refl
]
source-undated_by r false (Some o) is on = elim (cases_Bool (o.offset == 0)) [
  | inl first ↦ rw (is, on, first) refl
  | inr later ↦ rw (is, on, later) refl
]

source-undated : (r : Source) → has_valid_dates (source_data r) ≡ true
source-undated r = source-undated_by r r.sporadic r.on_clock refl refl

after-undated : (s : SystemLists) (after : List Activator) → has_valid_dates (after_data s after) ≡ true
after-undated s [] = refl
after-undated s (a ∷ []) = refl
after-undated s (a ∷ b ∷ after) = rw (items-undated (activator_data s) (λ a. refl) (a ∷ b ∷ after)) refl

lock-undated : (c : CriticalSection) → has_valid_dates (lock_data c) ≡ true
unfolding lock_data
lock-undated c = refl

task-undated_by : (s : SystemLists) (t : Task) (turn : Turn) (locks : List CriticalSection) (plain : Bool) → has_no_region t ≡ plain → let u : Task = record t { turn = turn; locks = locks } in has_valid_dates (task_data s u) ≡ true
unfolding task_data task_names_data
task-undated_by s t (Priority number) [] true is = rw (is, after-undated s t.after) refl
task-undated_by s t (Priority number) [] false is = rw (is, after-undated s t.after) refl
task-undated_by s t (Priority number) (c ∷ cs) true is = rw (is, after-undated s t.after, items-undated lock_data lock-undated (c ∷ cs)) refl
task-undated_by s t (Priority number) (c ∷ cs) false is = rw (is, after-undated s t.after, items-undated lock_data lock-undated (c ∷ cs)) refl
task-undated_by s t (Slot ticks) [] true is = rw (is, after-undated s t.after) refl
task-undated_by s t (Slot ticks) [] false is = rw (is, after-undated s t.after) refl
task-undated_by s t (Slot ticks) (c ∷ cs) true is = rw (is, after-undated s t.after, items-undated lock_data lock-undated (c ∷ cs)) refl
task-undated_by s t (Slot ticks) (c ∷ cs) false is = rw (is, after-undated s t.after, items-undated lock_data lock-undated (c ∷ cs)) refl
task-undated_by s t Queued [] true is = rw (is, after-undated s t.after) refl
task-undated_by s t Queued [] false is = rw (is, after-undated s t.after) refl
task-undated_by s t Queued (c ∷ cs) true is = rw (is, after-undated s t.after, items-undated lock_data lock-undated (c ∷ cs)) refl
task-undated_by s t Queued (c ∷ cs) false is = rw (is, after-undated s t.after, items-undated lock_data lock-undated (c ∷ cs)) refl

task-undated : (s : SystemLists) (t : Task) → has_valid_dates (task_data s t) ≡ true
task-undated s t = task-undated_by s t t.turn t.locks (has_no_region t) refl

path-undated_by : (s : SystemLists) (p : Path) (deadline : Option ℕ) → let q : Path = record p { deadline = deadline } in has_valid_dates (path_data s q) ≡ true
unfolding path_data
path-undated_by s p None = rw (items-undated (name_data s) (λ i. refl) p.tasks) refl
path-undated_by s p (Some deadline) = rw (items-undated (name_data s) (λ i. refl) p.tasks) refl

path-undated : (s : SystemLists) (p : Path) → has_valid_dates (path_data s p) ≡ true
path-undated s p = path-undated_by s p p.deadline

system-undated : (s : SystemLists) → has_valid_dates (system_data s) ≡ true
unfolding system_data
system-undated s =
    rw (
      items-undated resource_data resource-undated s.resources,
      items-undated source_data source-undated s.sources,
      items-undated (task_data s) (task-undated s) s.tasks,
      items-undated (path_data s) (path-undated s) s.paths,
    )
    refl

pub undated : (s : SystemLists) (ms : Members) → table ms ≡ system_data s → members_have_valid_dates ms ≡ true
undated s ms e = let h : has_valid_dates (table ms) ≡ true = subst (λ (d : Data). has_valid_dates d ≡ true) (sym e) (system-undated s) in h
