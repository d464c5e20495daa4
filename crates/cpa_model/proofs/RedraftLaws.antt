-- The redraft of a system is accepted, and it stands for the system.
use Rattle.std.proofs.Common.{◌≡◌, ℕ, pos, ◌<◌, List, map, length, get_or, All, Option, Some, None, option_map, refl, sym, ap, ◌∙◌, inl, inr}
use Rattle.std.proofs.lemmas.Bool.{cases_eq, eq-eqb, ne_eqb}
use Rattle.std.proofs.lemmas.List.Folds.{map_fixed}
use Rattle.cpa_units.specs.declared.places.TaskId.{TaskId}
use Rattle.cpa_draft.specs.Numbers.{nat_of, nat_or}
use Rattle.cpa_draft.specs.Names.{kind_of}
use Rattle.cpa_draft.specs.Refusals.{first_refusal}
use Rattle.cpa_draft.proofs.ListLaws.{map-map}
use Rattle.cpa_draft.proofs.UnrefusedLaws.{not_refused}
use Rattle.cpa_model.specs.declared.entries.Resource.{Resource}
use Rattle.cpa_model.specs.declared.entries.Source.{Source}
use Rattle.cpa_model.specs.declared.entries.OnClock.{OnClock}
use Rattle.cpa_model.specs.Clocks.{clock_name, offset_on}
use Rattle.cpa_model.specs.declared.entries.Task.{Task}
use Rattle.cpa_model.specs.declared.entries.Path.{Path}
use Rattle.cpa_model.specs.declared.locks.CriticalSection.{CriticalSection}
use Rattle.cpa_model.specs.declared.entries.Kind.{Kind}
use Rattle.cpa_model.specs.declared.entries.Kind.TheVariants as kind
use Rattle.cpa_model.specs.declared.entries.Turn.{Turn}
use Rattle.cpa_model.specs.declared.entries.Turn.TheVariants as turn
use Rattle.cpa_model.specs.SystemLists.{SystemLists, resource_at, task_at}
use Rattle.cpa_model.specs.Rules.{IsSystem, IsTask, IsPath, TurnFits}
use Rattle.cpa_model.specs.Built.{built_kind, built_resource, built_on_clock, built_source, built_task, built_path, built_section, built_turn, task_named, system_of}
use Rattle.cpa_model.specs.Redraft.{word_of, gap_at, bit_at, region_at, offset_at, redraft_resource, redraft_source, redraft_section, redraft_task, redraft_path, redraft}
use Rattle.cpa_model.proofs.RedraftNames.{place_of-resource, kind_of-redraft, activators-back, task-back}
use Rattle.cpa_model.proofs.RedraftLocks.{region-back}
use Rattle.cpa_model.proofs.RedraftUnrefused.{redraft-unrefused}

-- a kind with its number comes back
kind-back : (k : Kind) → built_kind (word_of k) (gap_at k) (bit_at k) ≡ k
kind-back kind.Preemptive = refl
kind-back kind.RoundRobin = refl
kind-back (kind.Tdma gap) = refl
kind-back (kind.Can bit) = refl
kind-back kind.Fifo = refl
kind-back kind.Ceiling = refl

-- and so does a resource
resource-back : (r : Resource) → built_resource (redraft_resource r) ≡ r
resource-back r = rw (kind-back r.kind) refl

-- an offset comes back
offset-back : (ticks : ℕ) → nat_or 0 (offset_at ticks) ≡ ticks
offset-back ticks = elim (cases_eq ticks 0) [
  | inl is ↦ rw (eq-eqb ticks 0 is) (sym is)
  | inr isn't ↦ rw (ne_eqb ticks 0 isn't) refl
]

on_clock-back : (on : Option OnClock) → built_on_clock (clock_name on) (offset_at (offset_on on)) ≡ on
on_clock-back None = refl
on_clock-back (Some o) = rw (offset-back o.offset) refl

-- and a source
source-back : (r : Source) → built_source (redraft_source r) ≡ r
source-back r = rw (on_clock-back r.on_clock) refl

-- a turn comes back where it fits the kind
turn-back : (s : SystemLists) (t : Task) (k : Kind) (u : Turn) → t.turn ≡ u → TurnFits k u → built_turn (Some (word_of k)) (redraft_task s t) ≡ u
turn-back s t kind.Preemptive (turn.Priority number) is fits = rw is refl
turn-back s t kind.Preemptive (turn.Slot ticks) is fits = absurd fits
turn-back s t kind.RoundRobin (turn.Priority number) is fits = absurd fits
turn-back s t kind.RoundRobin (turn.Slot ticks) is fits = rw is refl
turn-back s t (kind.Tdma gap) (turn.Priority number) is fits = absurd fits
turn-back s t (kind.Tdma gap) (turn.Slot ticks) is fits = rw is refl
turn-back s t (kind.Can bit) (turn.Priority number) is fits = rw is refl
turn-back s t (kind.Can bit) (turn.Slot ticks) is fits = absurd fits
turn-back s t kind.Preemptive turn.Queued is fits = absurd fits
turn-back s t kind.RoundRobin turn.Queued is fits = absurd fits
turn-back s t (kind.Tdma gap) turn.Queued is fits = absurd fits
turn-back s t (kind.Can bit) turn.Queued is fits = absurd fits
turn-back s t kind.Fifo (turn.Priority number) is fits = absurd fits
turn-back s t kind.Fifo (turn.Slot ticks) is fits = absurd fits
turn-back s t kind.Fifo turn.Queued is fits = refl
turn-back s t kind.Ceiling (turn.Priority number) is fits = rw is refl
turn-back s t kind.Ceiling (turn.Slot ticks) is fits = absurd fits
turn-back s t kind.Ceiling turn.Queued is fits = absurd fits

-- and critical sections
sections-back : (locks : List CriticalSection) → map built_section (map redraft_section locks) ≡ locks
sections-back locks = map-map redraft_section built_section locks ∙ map_fixed (λ (c : CriticalSection). built_section (redraft_section c)) locks (λ k c less. refl)

-- and a task with its turn, its region and its critical sections
task_entry-back : (s : SystemLists) → IsSystem s → (t : Task) → IsTask s t → built_task (redraft s) (redraft_task s t) ≡ t
unfolding built_task
task_entry-back s rules t fits =
    let is_turn : built_turn (kind_of (redraft s) (resource_at s t.res.0).name) (redraft_task s t) ≡ t.turn =
    ap (λ o. built_turn o (redraft_task s t)) (kind_of-redraft s rules t.res.0 fits.placed)
    ∙ turn-back s t (resource_at s t.res.0).kind t.turn refl fits.turn_fits in
    rw (is_turn, place_of-resource s rules t.res.0 fits.placed, activators-back s rules t.after fits.activated, region-back t.region, sections-back t.locks) refl

-- a deadline comes back
deadline-back : (o : Option ℕ) → option_map nat_of (option_map pos o) ≡ o
deadline-back None = refl
deadline-back (Some n) = refl

-- and the tasks of a path
path_tasks-back : (s : SystemLists) → IsSystem s → (ts : List TaskId) → All (λ (i : TaskId). i.0 < length s.tasks) ts → map (task_named (redraft s)) (map (λ (i : TaskId). (task_at s i.0).name) ts) ≡ ts
path_tasks-back s rules ts there =
    map-map (λ (i : TaskId). (task_at s i.0).name) (task_named (redraft s)) ts
    ∙ map_fixed (λ (i : TaskId). task_named (redraft s) (task_at s i.0).name) ts (λ k i less. task-back s rules (get_or ts k i) (there k i less))

-- and so does a path
path-back : (s : SystemLists) → IsSystem s → (p : Path) → IsPath s p → built_path (redraft s) (redraft_path s p) ≡ p
path-back s rules p path = rw (path_tasks-back s rules p.tasks path.there, deadline-back p.deadline) refl

-- the redraft of a system stands for it
pub redraft-stands : (s : SystemLists) → IsSystem s → system_of (redraft s) ≡ s
unfolding system_of redraft
redraft-stands s rules =
    let same_resources : map built_resource (map redraft_resource s.resources) ≡ s.resources =
    map-map redraft_resource built_resource s.resources ∙ map_fixed (λ (r : Resource). built_resource (redraft_resource r)) s.resources (λ k r less. resource-back (get_or s.resources k r)) in
    let same_sources : map built_source (map redraft_source s.sources) ≡ s.sources =
    map-map redraft_source built_source s.sources ∙ map_fixed (λ (r : Source). built_source (redraft_source r)) s.sources (λ k r less. source-back (get_or s.sources k r)) in
    let same_tasks : map (built_task (redraft s)) (map (redraft_task s) s.tasks) ≡ s.tasks =
    map-map (redraft_task s) (built_task (redraft s)) s.tasks
    ∙ map_fixed (λ (t : Task). built_task (redraft s) (redraft_task s t)) s.tasks (λ k t less. task_entry-back s rules (get_or s.tasks k t) (rules.tasks k t less)) in
    let same_paths : map (built_path (redraft s)) (map (redraft_path s) s.paths) ≡ s.paths =
    map-map (redraft_path s) (built_path (redraft s)) s.paths
    ∙ map_fixed (λ (p : Path). built_path (redraft s) (redraft_path s p)) s.paths (λ k p less. path-back s rules (get_or s.paths k p) (rules.paths k p less)) in
    rw (same_resources, same_sources, same_tasks, same_paths) refl

-- and no reason applies to it
pub redraft-accepted : (s : SystemLists) → IsSystem s → first_refusal (redraft s) ≡ None
redraft-accepted s rules = not_refused (redraft s) (redraft-unrefused s rules)
