-- What a change writes over an entry that it read.
use Rattle.std.proofs.Common.{◌≡◌, ℕ, ◌<◌, List, [], ◌∷◌, ◌++◌, length, slice_index_or, slice_set, refl, ap, ◌∙◌, arith}
use Rattle.std.proofs.Math.Seq.{get_or-append_seam}
use Rattle.std.proofs.lemmas.List.{length-set, length-append}
use Rattle.cpa_draft.proofs.ListLaws.{get_or-any}
use Rattle.cpa_units.specs.declared.limits.Size.{Size}
use Rattle.cpa_model.specs.declared.entries.Resource.{Resource}
use Rattle.cpa_model.specs.declared.entries.Source.{Source}
use Rattle.cpa_model.specs.declared.entries.Task.{Task}
use Rattle.cpa_model.specs.declared.entries.Path.{Path}
use Rattle.cpa_model.specs.declared.entries.Turn.{Turn}
use Rattle.cpa_model.specs.Rules.{IsSystem}
use Rattle.cpa_model.specs.SystemLists.{SystemLists, no_task, no_source}
use Rattle.cpa_model.specs.Changes.{with_task_at, with_exec, with_turn, with_swapped, with_source, with_offset, at_offset, with_task}

pub exec-written : (s : SystemLists) (i best worst : ℕ) (t : Task) → i < length s.tasks → t ≡ slice_index_or s.tasks i t
    → with_task_at s i (record t { best = best; worst = worst }) ≡ with_exec s i best worst
unfolding with_exec
exec-written s i best worst t less is = ap (λ (u : Task). with_task_at s i (record u { best = best; worst = worst })) (is ∙ get_or-any s.tasks i t no_task less)

pub turn-written : (s : SystemLists) (i : ℕ) (given : Turn) (t : Task) → i < length s.tasks → t ≡ slice_index_or s.tasks i t → with_task_at s i (record t { turn = given }) ≡ with_turn s i given
unfolding with_turn
turn-written s i given t less is = ap (λ (u : Task). with_task_at s i (record u { turn = given })) (is ∙ get_or-any s.tasks i t no_task less)

pub source-written : (s : SystemLists) (k period jitter distance : ℕ) (r : Source) → k < length s.sources → r ≡ slice_index_or s.sources k r
    → record s { sources = slice_set s.sources k (record r { period = period; jitter = jitter; distance = distance }) } ≡ with_source s k period jitter distance
unfolding with_source
source-written s k period jitter distance r less is =
    ap (λ (u : Source). record s { sources = slice_set s.sources k (record u { period = period; jitter = jitter; distance = distance }) }) (is ∙ get_or-any s.sources k r no_source less)

-- what was read at a place is the entry there
pub source-read : (rs : List Source) (k : ℕ) (r : Source) → k < length rs → r ≡ slice_index_or rs k r → r ≡ slice_index_or rs k no_source
source-read rs k r less is = is ∙ get_or-any rs k r no_source less

pub offset-moved : (rs : List Source) (k offset : ℕ) (r new : Source) → k < length rs → r ≡ slice_index_or rs k r → new ≡ record r { on_clock = at_offset offset r.on_clock }
    → new ≡ record (slice_index_or rs k no_source) { on_clock = at_offset offset (slice_index_or rs k no_source).on_clock }
offset-moved rs k offset r new less is moved = moved ∙ ap (λ (u : Source). record u { on_clock = at_offset offset u.on_clock }) (source-read rs k r less is)

pub offset-written : (s : SystemLists) (k offset : ℕ) (r new : Source) → k < length s.sources → r ≡ slice_index_or s.sources k r → new ≡ record r { on_clock = at_offset offset r.on_clock }
    → record s { sources = slice_set s.sources k new } ≡ with_offset s k offset
unfolding with_offset
offset-written s k offset r new less is moved = ap (λ (u : Source). record s { sources = slice_set s.sources k u }) (offset-moved s.sources k offset r new less is moved)

-- a system by an equation
pub system-same : (s t : SystemLists) → s ≡ t → IsSystem t → IsSystem s
system-same s t e rules = rw e rules

-- two turns that were read, and written over each other
pub swap-written : (s : SystemLists) (i j : ℕ) (first second entry other : Task) → i < length s.tasks → j < length s.tasks → first ≡ slice_index_or s.tasks i first → second ≡ slice_index_or s.tasks j second
    → entry ≡ slice_index_or s.tasks i entry → other ≡ slice_index_or (slice_set s.tasks i (record entry { turn = second.turn })) j other
    → with_task_at (with_task_at s i (record entry { turn = second.turn })) j (record other { turn = first.turn }) ≡ with_swapped s i j
unfolding with_swapped
swap-written s i j first second entry other at_i at_j is_first is_second is_entry is_other =
    let within : j < length (slice_set s.tasks i (record entry { turn = second.turn })) = rw (length-set s.tasks i (record entry { turn = second.turn })) at_j in
    turn-written (with_task_at s i (record entry { turn = second.turn })) j first.turn other within is_other
    ∙ ap (λ (c : SystemLists). with_turn c j first.turn) (turn-written s i second.turn entry at_i is_entry)
    ∙ ap (λ (u : Task). with_turn (with_turn s i u.turn) j first.turn) (is_second ∙ get_or-any s.tasks j second no_task at_j)
    ∙ ap (λ (u : Task). with_turn (with_turn s i (slice_index_or s.tasks j no_task).turn) j u.turn) (is_first ∙ get_or-any s.tasks i first no_task at_i)

-- tasks and paths by equations
pub lists-same : (z : Size) (rs : List Resource) (ss : List Source) (ts us : List Task) (ps qs : List Path) → ts ≡ us → ps ≡ qs
    → ◌≡◌ {A = SystemLists} (record { size = z; resources = rs; sources = ss; tasks = ts; paths = ps }) (record { size = z; resources = rs; sources = ss; tasks = us; paths = qs })
lists-same z rs ss ts us ps qs a b = rw (a, b) refl

-- a task that is added is on a resource of the system
pub pushed-placed : (z : Size) (rs : List Resource) (ss : List Source) (ts : List Task) (ps : List Path) (t : Task) → IsSystem (with_task (record { size = z; resources = rs; sources = ss; tasks = ts; paths = ps }) t) → t.res.0 < length rs
unfolding with_task
pushed-placed z rs ss ts ps t rules =
    let last : slice_index_or (ts ++ t ∷ []) (length ts) no_task ≡ t = get_or-append_seam ts t [] no_task in
    let within : length ts < length (ts ++ t ∷ []) = rw (length-append ts (t ∷ [])) (omega arith) in
    let placed : (slice_index_or (ts ++ t ∷ []) (length ts) no_task).res.0 < length rs = (rules.tasks (length ts) no_task within).placed in
    rw last at placed
