-- The system that a draft stands for keeps the rules, where no reason applies to the draft.
use Rattle.std.proofs.Common.{◌≡◌, ◌≢◌, is_some, ℕ, ℤ, zero, suc, ◌+◌, ◌-◌, ◌<◌, ◌≤◌, Bool, true, false, not, ◌&&◌, nat_le, nat_lt, cond, List, [], ◌∷◌, map, length, take, get_or, slice_index_or, All, Option, Some, None, IsSome, is_none, option_map, unwrap_or, refl, sym, ap, ◌∙◌, arith, inl, inr, eq-eqb, lit≤, length-append, length-take}
use Rattle.std.specs.Option.{ForSome}
use Rattle.std.specs.List.{list_all, list_any, filter_map, cons_option, range_with_len, fold, flat_map, sum, sum_by, AllPairs}
use Rattle.std.proofs.lemmas.List.Concat.{length-flat_map}
use Rattle.std.proofs.lemmas.List.Folds.{map_fixed}
use Rattle.std.proofs.lemmas.List.Sums.{sum-map}
use Rattle.std.proofs.lemmas.Slice.Eq.{bytes_eq-Decides}
use Rattle.std.proofs.Math.Bool.{or-true}
use Rattle.std.proofs.lemmas.Bool.{and_parts, and_from, or_parts, true≢false, false≢true, leb-false, ltb-true, ltb-false, le-ltb, cases_Bool}
use Rattle.std.proofs.lemmas.List.{length-map, get_or-map, get_or-take}
use Rattle.std.proofs.lemmas.List.FromFn.{get_or-range_with_len, length-range_with_len}
use Rattle.std.proofs.lemmas.Option.{none-some, same_Some}
use Rattle.std.proofs.Math.Nat.{le_trans}
use Rattle.cpa_units.specs.declared.limits.Size.TheVariants.{Large}
use Rattle.cpa_model.proofs.SizeLaws.{resources-most, sources-most, tasks-most, paths-most, larger-resource, larger-task, resource-sized, source-sized, worst-sized, slot-sized, region-sized}
use Rattle.cpa_units.specs.Name.{is_name}
use Rattle.cpa_units.specs.declared.places.ResId.{ResId}
use Rattle.cpa_units.specs.declared.places.SourceId.{SourceId}
use Rattle.cpa_units.specs.declared.places.TaskId.{TaskId}
use Rattle.std.specs.Str.{bytes_eq}
use Rattle.cpa_draft.specs.Numbers.{nat_of, nat_or, may_be_within}
use Rattle.cpa_draft.specs.DraftLists.{DraftLists, resource_at as draft_resource_at, task_at as draft_task_at, no_resource as no_draft_resource, no_task as no_draft_task}
use Rattle.cpa_draft.specs.Names.{resource_names, source_names, task_names, activity_names as draft_names, place_of, kind_of, link_at, link_of, links_of, is_nothing, is_task, is_after}
use Rattle.cpa_draft.specs.Chains.{link_step, longer, links_step, chain_within, first_longer, count_step, stream_count_within}
use Rattle.cpa_draft.specs.Refusals.{by_priority, has_regions, locks_misfit, turn_misfits, payload_misfits, task_misfits, rank_of, same_rank, is_taken, is_linked, task_fits, is_misfed, has_double}
use Rattle.cpa_draft.specs.declared.draft.DraftResource.{DraftResource}
use Rattle.cpa_draft.specs.declared.draft.DraftSource.{DraftSource}
use Rattle.cpa_draft.specs.declared.draft.DraftTask.{DraftTask}
use Rattle.cpa_draft.specs.declared.draft.DraftPath.{DraftPath}
use Rattle.cpa_draft.specs.declared.draft.KindWord.{KindWord}
use Rattle.cpa_draft.specs.declared.draft.KindWord.TheVariants as word
use Rattle.cpa_draft.specs.declared.links.Link.{Link}
use Rattle.cpa_draft.specs.declared.links.Link.TheVariants as link
use Rattle.cpa_draft.proofs.FirstLemmas.{none_marked}
use Rattle.cpa_draft.proofs.ListLaws.{passes-at, none-at, all-map, pairs-map, map-map, not-false}
use Rattle.cpa_draft.proofs.Maps.{list_any-map}
use Rattle.cpa_draft.proofs.NameLaws.{Differ, new-differ, same_name}
use Rattle.cpa_draft.proofs.UnrefusedLaws.{IsUnrefused}
use Rattle.cpa_model.specs.declared.entries.Resource.{Resource}
use Rattle.cpa_model.specs.declared.entries.Source.{Source}
use Rattle.cpa_model.specs.declared.entries.Task.{Task}
use Rattle.cpa_model.specs.declared.entries.Path.{Path}
use Rattle.cpa_model.specs.declared.entries.Turn.TheVariants as turn
use Rattle.cpa_model.specs.declared.entries.Activator.{Activator}
use Rattle.cpa_model.specs.declared.entries.Activator.TheVariants as activator
use Rattle.cpa_model.specs.Chains.{chain_step, depth_within, activators, streams_step, streams_within}
use Rattle.cpa_model.specs.SystemLists.{SystemLists, task_at, streams_of, is_task as is_the_task, no_resource, no_task}
use Rattle.cpa_model.specs.Rules.{IsSized, IsSizedResource, IsSizedSource, IsSizedTask, IsSystem, IsResource, IsSource, IsTask, IsActivator, IsPath, IsLinked, AllDiffer, HaveOwnPriorities, HaveLocksTogether, TurnFits, RegionFits, LocksFit, activity_names}
use Rattle.cpa_model.specs.Built.{built_kind, built_resource, built_source, built_task, built_path, built_section, built_turn, built_activator, activator_at, resource_place, activity_place, bit_time, rate_of, most_frame, task_named, has_executions, TaskFitsTypes, PathFitsTypes, system_of}
use Rattle.cpa_model.proofs.SystemLaws.{path-short, activators-few}
use Rattle.cpa_model.proofs.DraftClocks.{built-named, built-clocks}
use Rattle.cpa_model.proofs.DraftSections.{any-more, is_locked, sections-kept, locks-kept, locks-together}
use Rattle.cpa_model.proofs.EntryLaws.{may-range, range, resource-kept, source-kept, place-kept, nothing-none, link-kept, task-kept, turn-kept, region-kept, payload-kept, executions-kept}

-- chains

pub map-same : {X Y : Type 0} (f g : X → Y) (xs : List X) → ((k : ℕ) (d : X) → k < length xs → f (get_or xs k d) ≡ g (get_or xs k d)) → map f xs ≡ map g xs
map-same f g [] each = refl
map-same f g (x ∷ xs) each = rw (each 0 x (omega arith), map-same f g xs (λ k d less. each (suc k) d (omega arith))) refl

-- the link that an activator is
abbrev pub link_from : Activator → Link
link_from (activator.Source k) = link.Source
link_from (activator.Task j) = link.Task j.0

abbrev pub links_from : List Activator → List Link
links_from many = map link_from many

step-same : (a : Activator) (f g : ℕ → Option ℕ) → ((j : ℕ) → f j ≡ g j) → link_step (link_from a) f ≡ chain_step a g
step-same (activator.Source k) f g each = refl
step-same (activator.Task j) f g each = ap (option_map suc) (each j.0)

steps-same : (from : Option ℕ) (many : List Activator) (f g : ℕ → Option ℕ) → ((j : ℕ) → f j ≡ g j)
    → fold (λ longest l. longer longest (link_step l f)) from (links_from many) ≡ fold (λ longest a. longer longest (chain_step a g)) from many
steps-same from [] f g each = refl
steps-same from (a ∷ many) f g each =
    ap (λ o. fold (λ longest l. longer longest (link_step l f)) (longer from o) (links_from many)) (step-same a f g each) ∙ steps-same (longer from (chain_step a g)) many f g each

pub at-map : {X Y : Type 0} (f : X → Y) (xs : List X) (i : ℕ) (d : X) → get_or (map f xs) i (f d) ≡ f (get_or xs i d)
at-map f [] i d = refl
at-map f (x ∷ xs) zero d = refl
at-map f (x ∷ xs) (suc i) d = at-map f xs i d

pub chain-same : (all : List (List Activator)) (n i : ℕ) → chain_within (map links_from all) n i ≡ depth_within all n i
unfolding chain_within depth_within
chain-same all zero i = refl
chain-same all (suc n) i =
    ap (λ ls. links_step ls (chain_within (map links_from all) n)) (at-map links_from all i [])
    ∙ steps-same (Some 1) (slice_index_or all i []) (chain_within (map links_from all) n) (depth_within all n) (chain-same all n)

count-same : (a : Activator) (f : ℕ → ℕ) (g : ℕ → List SourceId) → ((j : ℕ) → f j ≡ length (g j)) → count_step (link_from a) f ≡ length (streams_step a g)
count-same (activator.Source k) f g each = refl
count-same (activator.Task j) f g each = each j.0

counts-same : (many : List Activator) (f : ℕ → ℕ) (g : ℕ → List SourceId) → ((j : ℕ) → f j ≡ length (g j)) → sum_by (λ l. count_step l f) (links_from many) ≡ length (flat_map (λ a. streams_step a g) many)
counts-same many f g each =
    sym (sum-map (λ l. count_step l f) (links_from many))
    ∙ ap sum (map-map link_from (λ l. count_step l f) many ∙ map-same (λ a. count_step (link_from a) f) (λ a. length (streams_step a g)) many (λ k d less. count-same (get_or many k d) f g each))
    ∙ sum-map (λ a. length (streams_step a g)) many
    ∙ sym (length-flat_map (λ a. streams_step a g) many)

pub streams-same : (all : List (List Activator)) (n i : ℕ) → stream_count_within (map links_from all) n i ≡ length (streams_within all n i)
unfolding stream_count_within streams_within
streams-same all zero i = refl
streams-same all (suc n) i =
    ap (λ ls. sum_by (λ l. count_step l (stream_count_within (map links_from all) n)) ls) (at-map links_from all i [])
    ∙ counts-same (slice_index_or all i []) (stream_count_within (map links_from all) n) (streams_within all n) (streams-same all n)

link-built : (sources : ℕ) (o : Option ℕ) → is_nothing (link_at sources o) ≡ false → link_at sources o ≡ link_from (activator_at sources (unwrap_or o 0))
link-built sources None h = absurd (true≢false h)
link-built sources (Some k) h = elim (cases_Bool (nat_lt k sources)) [
  | inl less ↦ rw less refl
  | inr past ↦ rw past refl
]

-- the names of a task's activators name something
know-after : (d : DraftLists) → IsUnrefused d → (i k : ℕ) (t : DraftTask) (name : List ℕ) → i < length d.tasks → k < length (get_or d.tasks i t).after → is_nothing (link_of d (get_or (get_or d.tasks i t).after k name)) ≡ false
know-after d u i k t name less within = none-at (λ name. is_nothing (link_of d name)) (get_or d.tasks i t).after k name (or_parts _ _ (u.tasks_know i t less)).1 within

pub links-built : (d : DraftLists) → IsUnrefused d → links_of d ≡ map links_from (activators (system_of d).tasks)
unfolding system_of built_task
links-built d u =
    map-same (λ (t : DraftTask). map (link_of d) t.after) (λ (t : DraftTask). links_from (map (built_activator d) t.after)) d.tasks
    (λ i t less. map-same (link_of d) (λ name. link_from (built_activator d name)) (get_or d.tasks i t).after
    (λ k name within. link-built (length d.sources) _ (know-after d u i k t name less within))
    ∙ sym (map-map (built_activator d) link_from (get_or d.tasks i t).after))
    ∙ sym (map-map (λ (t : Task). t.after) links_from (map (built_task d) d.tasks) ∙ map-map (built_task d) (λ (t : Task). links_from t.after) d.tasks)

not-none : {X : Type 0} (o : Option X) → is_none o ≡ false → IsSome o
not-none None e = absurd (true≢false e)
not-none (Some x) e = refl

chains-kept : (d : DraftLists) → IsUnrefused d → (i : ℕ) → i < length (system_of d).tasks → IsSome (depth_within (activators (system_of d).tasks) 32 i)
unfolding first_longer system_of
chains-kept d u i less =
    let long : i < length (links_of d) = omega (arith, length-map d.tasks (λ (t : DraftTask). map (link_of d) t.after), length-map d.tasks (built_task d)) in
    not-none _ (sym (ap is_none (ap (λ links. chain_within links 32 i) (links-built d u) ∙ chain-same (activators (system_of d).tasks) 32 i))
    ∙ none_marked (λ i _. is_none (chain_within (links_of d) 32 i)) (links_of d) i [] u.short long)

-- what reason 14 leaves of a task
record IsFed (d : DraftLists) (i : ℕ) (t : DraftTask) : Type 0 where
  pub some : 0 < length t.after
  pub differ : Differ t.after
  pub few : stream_count_within (links_of d) 32 i ≤ 32

not-some : {X : Type 0} (o : Option X) → is_some o ≡ false → o ≡ None
not-some None e = refl
not-some (Some x) e = absurd (true≢false e)

not-double : (names : List (List ℕ)) → has_double names ≡ false → Differ names
not-double names h =
    let same : map (λ name. name) names ≡ names = map_fixed (λ name. name) names (λ k d less. refl) in
    rw same at (new-differ (λ name. name) [] names (not-some _ h) (λ i j d before less. absurd (omega arith)))

is_fed : (d : DraftLists) → IsUnrefused d → (i : ℕ) (t : DraftTask) → i < length d.tasks → IsFed d i (get_or d.tasks i t)
is_fed d u i t less =
    let parts = or_parts _ _ (none_marked (is_misfed d) d.tasks i t u.fed less) in
    let names = or_parts _ _ parts.0 in
    record { some = leb-false _ _ names.0; differ = not-double (get_or d.tasks i t).after names.1; few = ltb-false _ _ parts.1 }

streams-kept : (d : DraftLists) → IsUnrefused d → (i : ℕ) → i < length (system_of d).tasks → length (streams_of (system_of d) i) ≤ 32
unfolding system_of
streams-kept d u i less =
    let within : i < length d.tasks = omega (arith, length-map d.tasks (built_task d)) in
    let same : stream_count_within (links_of d) 32 i ≡ length (streams_of (system_of d) i) = ap (λ links. stream_count_within links 32 i) (links-built d u) ∙ streams-same (activators (system_of d).tasks) 32 i in
    omega (arith, (is_fed d u i no_draft_task within).few)

-- tasks

kind-some : (d : DraftLists) (name : List ℕ) → is_none (place_of (resource_names d) name) ≡ false → kind_of d name ≡ Some (draft_resource_at d (resource_place d name)).kind
kind-some d name h = by (place_of (resource_names d) name) h
  where
    by : (o : Option ℕ) → is_none o ≡ false → option_map (λ k. (draft_resource_at d k).kind) o ≡ Some (draft_resource_at d (unwrap_or o 0)).kind
    by None some = absurd (true≢false some)
    by (Some k) some = refl

bit-kept : (d : DraftLists) → IsUnrefused d → (name : List ℕ) → is_none (place_of (resource_names d) name) ≡ false → (1 ≤ bit_time d name) × (bit_time d name ≤ 1000)
bit-kept d u name h =
    let below : resource_place d name < length d.resources = omega (arith, place-kept (resource_names d) name h, length-map d.resources (λ (r : DraftResource). r.name)) in
    let fit = larger-resource d.size (draft_resource_at d (resource_place d name)) (u.resources_fit (resource_place d name) no_draft_resource below) in
    may-range 1 1000 1 (draft_resource_at d (resource_place d name)).bit (lit≤ tt, lit≤ tt) (and_parts _ _ (and_parts _ _ (and_parts _ _ fit).0).0).1

rate-kept : (d : DraftLists) → IsUnrefused d → (name : List ℕ) → is_none (place_of (resource_names d) name) ≡ false → (1 ≤ rate_of d name) × (rate_of d name ≤ 672)
rate-kept d u name h =
    let below : resource_place d name < length d.resources = omega (arith, place-kept (resource_names d) name h, length-map d.resources (λ (r : DraftResource). r.name)) in
    let fit = larger-resource d.size (draft_resource_at d (resource_place d name)) (u.resources_fit (resource_place d name) no_draft_resource below) in
    may-range 1 672 1 (draft_resource_at d (resource_place d name)).rate (lit≤ tt, lit≤ tt) (and_parts _ _ (and_parts _ _ fit).0).1

activator-kept : (s : SystemLists) (sources k : ℕ) → sources ≡ length s.sources → k < sources + length s.tasks → IsActivator s (activator_at sources k)
activator-kept s sources k count less = elim (cases_Bool (nat_lt k sources)) [
  | inl from_source ↦ rw from_source (omega (arith, ltb-true _ _ from_source))
  | inr past ↦ rw past (omega (arith, ltb-false _ _ past))
]

-- the place of a name that names something
active-below : (d : DraftLists) (name : List ℕ) → is_nothing (link_of d name) ≡ false → activity_place d name < length d.sources + length d.tasks
active-below d name know =
    omega (arith, link-kept (length d.sources) (draft_names d) name know, length-append (source_names d) (task_names d), length-map d.sources (λ (r : DraftSource). r.name), length-map d.tasks (λ (t : DraftTask). t.name))

-- two places at which one activator stands are the same
at-same : (sources k m : ℕ) → activator_at sources k ≡ activator_at sources m → k ≡ m
at-same sources k m e = elim (cases_Bool (nat_lt k sources)) [
  | inl first ↦ elim (cases_Bool (nat_lt m sources)) [
    | inl second ↦ source-same k m (rw (first, second) at e)
    | inr second ↦ absurd (mixed k (m - sources) (rw (first, second) at e))
  ]
  | inr first ↦ elim (cases_Bool (nat_lt m sources)) [
    | inl second ↦ absurd (mixed m (k - sources) (sym (rw (first, second) at e)))
    | inr second ↦
        let same = task-same (k - sources) (m - sources) (rw (first, second) at e) in
        omega (arith, ltb-false _ _ first, ltb-false _ _ second)
  ]
]
  where
    source-same : (k m : ℕ) → activator.Source (record { 0 = k }) ≡ activator.Source (record { 0 = m }) → k ≡ m
    source-same k m e = ap place e
      where
        place : Activator → ℕ
        place (activator.Source source) = source.0
        place (activator.Task task) = 0

    task-same : (k m : ℕ) → activator.Task (record { 0 = k }) ≡ activator.Task (record { 0 = m }) → k ≡ m
    task-same k m e = ap place e
      where
        place : Activator → ℕ
        place (activator.Source source) = 0
        place (activator.Task task) = task.0

    mixed : (k m : ℕ) → activator.Source (record { 0 = k }) ≡ activator.Task (record { 0 = m }) → ⊥
    mixed k m e = cc

-- names that differ name different activators
activators-differ : (d : DraftLists) (names : List (List ℕ)) → Differ names → ((k : ℕ) (name : List ℕ) → k < length names → is_nothing (link_of d (get_or names k name)) ≡ false) → AllPairs (λ a b. a ≢ b) (map (built_activator d) names)
activators-differ d names differ know =
    pairs-map (λ a b. a ≢ b) (built_activator d) names
    (λ i j e before less. λ same. differ i j e before less
    (same_name (draft_names d) (get_or names i e) (get_or names j e) (place_of (draft_names d) (get_or names i e)) (place_of (draft_names d) (get_or names j e)) refl refl
    (nothing-none (length d.sources) _ (know i e (omega arith))) (nothing-none (length d.sources) _ (know j e less))
    (at-same (length d.sources) (activity_place d (get_or names i e)) (activity_place d (get_or names j e)) same)))

-- a task that suits the kind of its resource has a turn of the right sort
turn-suits : (d : DraftLists) (t : DraftTask) → task_misfits (kind_of d t.on) t ≡ false → turn_misfits (kind_of d t.on) t ≡ false
turn-suits d t suit = (or_parts _ _ (or_parts _ _ (or_parts _ _ (or_parts _ _ suit).0).0).0).0

-- and a payload for which the frame of the kind has room
payload-suits : (d : DraftLists) (t : DraftTask) → task_fits d.size t ≡ true → task_misfits (kind_of d t.on) t ≡ false → nat_or 0 t.payload ≤ most_frame (kind_of d t.on)
payload-suits d t fit suit =
    let fit-locks = and_parts _ _ (larger-task d.size t fit) in
    let fit-region = and_parts _ _ fit-locks.0 in
    let fit-slot = and_parts _ _ fit-region.0 in
    let fit-priority = and_parts _ _ fit-slot.0 in
    payload-kept (kind_of d t.on) t.payload (or_parts _ _ (or_parts _ _ (or_parts _ _ (or_parts _ _ suit).0).0).0).1 (and_parts _ _ fit-priority.0).1

task-kept-at : (d : DraftLists) → IsUnrefused d → All (λ t. has_executions t ≡ true) d.tasks → (i : ℕ) (t : DraftTask) → i < length d.tasks → IsTask (system_of d) (built_task d (get_or d.tasks i t))
unfolding system_of built_task
task-kept-at d u given i e less =
    let t = get_or d.tasks i e in
    let know : (is_none (place_of (resource_names d) t.on) ≡ false) × (list_any (λ name. is_nothing (link_of d name)) t.after ≡ false) = or_parts _ _ (u.tasks_know i e less) in
    let below : resource_place d t.on < length d.resources = omega (arith, place-kept (resource_names d) t.on know.0, length-map d.resources (λ (r : DraftResource). r.name)) in
    let fit-locks = and_parts _ _ (larger-task d.size (get_or d.tasks i e) (u.tasks_fit i e less)) in
    let fit-region = and_parts _ _ fit-locks.0 in
    let fit = and_parts _ _ fit-region.0 in
    let fit-priority = and_parts _ _ fit.0 in
    let fit-payload = and_parts _ _ fit-priority.0 in
    let fit-executions = and_parts _ _ fit-payload.0 in
    let run = executions-kept (kind_of d t.on) t.best t.worst t.payload t.extended (bit_time d t.on) (rate_of d t.on) (given i e less) fit-executions.0 fit-executions.1
    (payload-suits d t (u.tasks_fit i e less) (u.tasks_suit i e less)) (u.ordered i e less) (bit-kept d u t.on know.0) (rate-kept d u t.on know.0) in
    let suit = turn-suits d t (u.tasks_suit i e less) in
    let suits = or_parts _ _ (u.tasks_suit i e less) in
    let suit-region : (is_some t.region && not (has_regions (unwrap_or (kind_of d t.on) word.Preemptive))) ≡ false = (or_parts _ _ suits.0).1 in
    let suit-locks : locks_misfit (unwrap_or (kind_of d t.on) word.Preemptive) t.locks ≡ false = suits.1 in
    let is_kind = kind-some d t.on know.0 in
    let r = draft_resource_at d (resource_place d t.on) in
    let turn : TurnFits (built_kind r.kind r.gap r.bit) (built_turn (kind_of d t.on) t) =
    rw is_kind (turn-kept r.kind r.gap r.bit t (rw is_kind at suit) fit-priority.1 fit.1) in
    let region : RegionFits (built_kind r.kind r.gap r.bit) (nat_or 1 t.region) = region-kept r.kind r.gap r.bit t.region (rw is_kind at suit-region) fit-region.1 in
    let some-region : 1 ≤ nat_or 1 t.region = (may-range 1 10000000 1 t.region (lit≤ tt, lit≤ tt) fit-region.1).0 in
    let sections = sections-kept (take i d.tasks) t fit-locks.1 (u.locks_named i e less) some-region (is_locked d u i e less) in
    let locks : LocksFit (built_kind r.kind r.gap r.bit) (nat_or 1 t.region) (map built_section t.locks) = locks-kept r.kind r.gap r.bit (nat_or 1 t.region) t.locks (rw is_kind at suit-locks) sections in
    record {
      placed = rw (length-map d.resources built_resource) below;
      some = rw (length-map t.after (built_activator d)) (is_fed d u i e less).some;
      activated = all-map (IsActivator (system_of d)) (built_activator d) t.after
          (λ k name within. activator-kept (system_of d) (length d.sources) (activity_place d (get_or t.after k name)) (sym (length-map d.sources built_source))
          (rw (length-map d.tasks (built_task d)) (active-below d (get_or t.after k name) (know-after d u i k e name less within))));
      different = activators-differ d t.after (is_fed d u i e less).differ (λ k name within. know-after d u i k e name less within);
      some_best = run.some;
      ordered = run.ordered;
      worst = run.small;
      turn_fits = rw (get_or-map built_resource d.resources (resource_place d t.on) no_draft_resource no_resource below) turn;
      region_fits = rw (get_or-map built_resource d.resources (resource_place d t.on) no_draft_resource no_resource below) region;
      locks_fit = rw (get_or-map built_resource d.resources (resource_place d t.on) no_draft_resource no_resource below) locks;
    }

-- priorities

rank-of : (number place : ℕ) (o : Option ℤ) → is_none o ≡ false → turn.Priority (nat_or 0 o) ≡ turn.Priority number → option_map {U = ℕ × ℕ} (λ (z : ℤ). (place, nat_of z)) o ≡ Some (place, number)
rank-of number place None some e = absurd (true≢false some)
rank-of number place (Some z) some e = let same : nat_of z ≡ number = cc in rw same refl

rank-from : (k : Option KindWord) (place number : ℕ) (t : DraftTask) → turn_misfits k t ≡ false → built_turn k t ≡ turn.Priority number
    → cond (by_priority k) (option_map {U = ℕ × ℕ} (λ (z : ℤ). (place, nat_of z)) t.priority) None ≡ Some (place, number)
rank-from (Some word.Preemptive) place number t h e = rank-of number place t.priority (or_parts _ _ h).0 e
rank-from (Some word.Can) place number t h e = rank-of number place t.priority (or_parts _ _ h).0 e
rank-from (Some word.Ceiling) place number t h e = rank-of number place t.priority (or_parts _ _ h).0 e
rank-from (Some word.Fifo) place number t h e = cc
rank-from (Some word.RoundRobin) place number t h e = cc
rank-from (Some word.Tdma) place number t h e = cc
rank-from None place number t h e = cc

same-rank : (place number : ℕ) → same_rank (place, number) (place, number) ≡ true
same-rank place number = and_from _ _ (eq-eqb place place refl) (eq-eqb number number refl)

kept-more : {Y : Type 0} (p : Y → Bool) (o : Option Y) (ys : List Y) → list_any p ys ≡ true → list_any p (cons_option o ys) ≡ true
kept-more p None ys h = h
kept-more p (Some y) ys h = rw h (or-true (p y))

any-kept : {X Y : Type 0} (f : X → Option Y) (p : Y → Bool) (xs : List X) (i : ℕ) (d : X) (y : Y) → i < length xs → f (get_or xs i d) ≡ Some y → p y ≡ true → list_any p (filter_map f xs) ≡ true
any-kept f p [] i d y h e passes = absurd (omega arith)
any-kept f p (x ∷ xs) zero d y h e passes = rw (e, passes) refl
any-kept f p (x ∷ xs) (suc i) d y h e passes = kept-more p (f x) (filter_map f xs) (any-kept f p xs i d y (omega arith) e passes)

own-priorities : (d : DraftLists) → IsUnrefused d → (i j : ℕ) (t : DraftTask) → i < j → j < length d.tasks → HaveOwnPriorities (built_task d (get_or d.tasks i t)) (built_task d (get_or d.tasks j t))
unfolding built_task
own-priorities d u i j e before less same number turn-i turn-j =
    let t = get_or d.tasks i e in
    let v = get_or d.tasks j e in
    let rank-t : rank_of d t ≡ Some (resource_place d t.on, number) = rank-from (kind_of d t.on) (resource_place d t.on) number t (turn-suits d t (u.tasks_suit i e (omega arith))) turn-i in
    let rank-v : rank_of d v ≡ Some (resource_place d v.on, number) = rank-from (kind_of d v.on) (resource_place d v.on) number v (turn-suits d v (u.tasks_suit j e less)) turn-j in
    let place : resource_place d t.on ≡ resource_place d v.on = ap (λ (r : ResId). r.0) same in
    let there : rank_of d (get_or (take j d.tasks) i e) ≡ Some (resource_place d v.on, number) = rw (get_or-take j d.tasks i e before) (rank-t ∙ ap (λ k. Some (k, number)) place) in
    let taken : is_taken (Some (resource_place d v.on, number)) (filter_map (rank_of d) (take j d.tasks)) ≡ true =
    any-kept (rank_of d) (same_rank (resource_place d v.on, number)) (take j d.tasks) i e (resource_place d v.on, number) (omega (arith, length-take j d.tasks)) there (same-rank (resource_place d v.on) number) in
    let free : is_taken (rank_of d v) (filter_map (rank_of d) (take j d.tasks)) ≡ false = none_marked (λ k t. is_taken (rank_of d t) (filter_map (rank_of d) (take k d.tasks))) d.tasks j e u.ranks less in
    true≢false (sym taken ∙ ap (λ o. is_taken o (filter_map (rank_of d) (take j d.tasks))) (sym rank-v) ∙ free)

-- names

pub none-differ : AllDiffer []
none-differ = λ i j d before less. absurd (omega arith)

activities-differ : (d : DraftLists) → IsUnrefused d → AllDiffer (activity_names (system_of d))
unfolding system_of built_task
activities-differ d u =
    rw (map-map built_source (λ (r : Source). r.name) d.sources, map-map (built_task d) (λ (t : Task). t.name) d.tasks)
    (new-differ (λ (t : DraftTask). t.name) (source_names d) d.tasks u.new_tasks
    (new-differ (λ (r : DraftSource). r.name) [] d.sources u.new_sources none-differ))

resources-differ : (d : DraftLists) → IsUnrefused d → AllDiffer (map (λ (r : Resource). r.name) (map built_resource d.resources))
resources-differ d u = rw (map-map built_resource (λ (r : Resource). r.name) d.resources) (new-differ (λ (r : DraftResource). r.name) [] d.resources u.new_resources none-differ)

paths-differ : (d : DraftLists) → IsUnrefused d → AllDiffer (map (λ (p : Path). p.name) (map (built_path d) d.paths))
paths-differ d u = rw (map-map (built_path d) (λ (p : Path). p.name) d.paths) (new-differ (λ (p : DraftPath). p.name) [] d.paths u.new_paths none-differ)

-- paths

deadline-kept : (o : Option ℤ) → may_be_within 1 1000000000 o ≡ true → ForSome (option_map nat_of o) (λ n. (1 ≤ n) × (n ≤ 1000000000))
deadline-kept None h = λ n e. absurd (none-some n e)
deadline-kept (Some z) h = λ n e. let same : nat_of z ≡ n = same_Some (nat_of z) n e in rw (← same) (range 1 1000000000 z h)

-- the places of a path's names
task-below : (d : DraftLists) (name : List ℕ) → is_task (link_of d name) ≡ true → activity_place d name - length d.sources < length d.tasks
task-below d name h =
    let k = task-kept (length d.sources) (draft_names d) name h in
    omega (arith, k.past, place-kept (draft_names d) name k.there, length-append (source_names d) (task_names d), length-map d.sources (λ (r : DraftSource). r.name), length-map d.tasks (λ (t : DraftTask). t.name))

task-activator : (d : DraftLists) (name : List ℕ) → is_task (link_of d name) ≡ true → built_activator d name ≡ activator.Task (task_named d name)
task-activator d name h =
    let k = task-kept (length d.sources) (draft_names d) name h in
    rw (le-ltb _ _ k.past) refl

-- the name before another in a path names an activator of the other
is_after-name : (d : DraftLists) (first second : List ℕ) → is_task (link_of d first) ≡ true → is_task (link_of d second) ≡ true → is_after d first (link_of d second) ≡ true
    → list_any (is_the_task (task_named d first).0) (map (built_activator d) (draft_task_at d (activity_place d second - length d.sources)).after) ≡ true
is_after-name d first second know-first know h =
    let k = task-kept (length d.sources) (draft_names d) second know in
    let names = (draft_task_at d (activity_place d second - length d.sources)).after in
    let among : list_any (bytes_eq first) names ≡ true = rw (k.link) at h in
    list_any-map (is_the_task (task_named d first).0) (built_activator d) names
    ∙ any-more (bytes_eq first) (λ name. is_the_task (task_named d first).0 (built_activator d name)) names
    (λ name same. ap (λ n. is_the_task (task_named d first).0 (built_activator d n)) (sym ((bytes_eq-Decides first name).0 same))
    ∙ ap (is_the_task (task_named d first).0) (task-activator d first know-first)
    ∙ eq-eqb (task_named d first).0 (task_named d first).0 refl)
    among

linked-at : (d : DraftLists) (names : List (List ℕ)) (k : ℕ) → is_linked d names ≡ true → k + 1 < length names → is_after d (get_or names k []) (link_of d (get_or names (k + 1) [])) ≡ true
linked-at d names k linked less =
    let test = λ (m : ℕ). is_after d (get_or names (m - 1) []) (link_of d (get_or names m [])) in
    let short : k < length (range_with_len 1 (length names - 1)) = omega (arith, length-range_with_len 1 (length names - 1)) in
    let there : test (get_or (range_with_len 1 (length names - 1)) k 0) ≡ true = passes-at test (range_with_len 1 (length names - 1)) k 0 linked short in
    let place : get_or (range_with_len 1 (length names - 1)) k 0 ≡ k + 1 = get_or-range_with_len 1 (length names - 1) k 0 (omega arith) ∙ omega arith in
    let before : k + 1 - 1 ≡ k = omega arith in
    sym (ap (λ m. is_after d (get_or names m []) (link_of d (get_or names (k + 1) []))) before) ∙ sym (ap test place) ∙ there

no_id : TaskId
no_id = record { 0 = 0 }

linked-kept : (d : DraftLists) (names : List (List ℕ)) → list_all (λ name. is_task (link_of d name)) names ≡ true → is_linked d names ≡ true → IsLinked (system_of d) (map (task_named d) names)
unfolding system_of built_task no_id
linked-kept d names know linked k less =
    let short : k + 1 < length names = omega (arith, length-map names (task_named d)) in
    let first = get_or names k [] in
    let second = get_or names (k + 1) [] in
    let know-first = passes-at (λ name. is_task (link_of d name)) names k [] know (omega arith) in
    let know-second = passes-at (λ name. is_task (link_of d name)) names (k + 1) [] know short in
    let place = activity_place d second - length d.sources in
    let at-first : get_or (map (task_named d) names) k no_id ≡ task_named d first = get_or-map (task_named d) names k [] no_id (omega arith) in
    let at-second : get_or (map (task_named d) names) (k + 1) no_id ≡ task_named d second = get_or-map (task_named d) names (k + 1) [] no_id short in
    let entry : (task_at (system_of d) place).after ≡ map (built_activator d) (draft_task_at d place).after =
    ap (λ (t : Task). t.after) (get_or-map (built_task d) d.tasks place no_draft_task no_task (task-below d second know-second)) in
    rw (at-first, at-second, entry)
    (is_after-name d first second know-first know-second (linked-at d names k linked short))

path-kept-at : (d : DraftLists) → IsUnrefused d → (i : ℕ) (p : DraftPath) → i < length d.paths → IsPath (system_of d) (built_path d (get_or d.paths i p))
unfolding system_of
path-kept-at d u i e less =
    let p = get_or d.paths i e in
    let linked : (nat_le (length p.tasks) 0 ≡ false) × (not (is_linked d p.tasks) ≡ false) = or_parts _ _ (u.linked i e less) in
    let some : 0 < length p.tasks = leb-false _ _ linked.0 in
    let know = u.paths_know i e less in
    record {
      some = rw (length-map p.tasks (task_named d)) some;
      there = all-map (λ (t : TaskId). t.0 < length (map (built_task d) d.tasks)) (task_named d) p.tasks
          (λ k name below. rw (length-map d.tasks (built_task d)) (task-below d (get_or p.tasks k name) (passes-at (λ name. is_task (link_of d name)) p.tasks k name know below)));
      linked = linked-kept d p.tasks know (not-false _ linked.1);
      deadline = deadline-kept p.deadline (u.paths_fit i e less);
    }

-- what the size allows
task-sized : (d : DraftLists) → IsUnrefused d → All (λ t. IsSizedTask d.size (built_task d t)) d.tasks
unfolding built_task
task-sized d u i e less =
    let t = get_or d.tasks i e in
    let know : (is_none (place_of (resource_names d) t.on) ≡ false) × (list_any (λ name. is_nothing (link_of d name)) t.after ≡ false) = or_parts _ _ (u.tasks_know i e less) in
    let locks = and_parts _ _ (u.tasks_fit i e less) in
    let region = and_parts _ _ locks.0 in
    let slot = and_parts _ _ region.0 in
    let priority = and_parts _ _ slot.0 in
    let payload = and_parts _ _ priority.0 in
    let run = and_parts _ _ payload.0 in
    record {
      worst = worst-sized d.size (kind_of d t.on) t.payload t.worst (unwrap_or t.extended false) (bit_time d t.on) (rate_of d t.on) (payload-suits d t (u.tasks_fit i e less) (u.tasks_suit i e less)) run.1
          (bit-kept d u t.on know.0) (rate-kept d u t.on know.0);
      slot = slot-sized d.size (kind_of d t.on) t slot.1;
      region = region-sized d.size t.region region.1;
    }

sized-kept : (d : DraftLists) → IsUnrefused d → IsSized (system_of d)
unfolding system_of
sized-kept d u = record {
  resources = rw (length-map d.resources built_resource) u.few_resources;
  sources = rw (length-map d.sources built_source) u.few_sources;
  tasks = rw (length-map d.tasks (built_task d)) u.few_tasks;
  paths = rw (length-map d.paths (built_path d)) u.few_paths;
  limits = all-map (IsSizedResource d.size) built_resource d.resources (λ k r less. resource-sized d.size (get_or d.resources k r) (u.resources_fit k r less));
  arrivals = all-map (IsSizedSource d.size) built_source d.sources (λ k r less. source-sized d.size (get_or d.sources k r) (u.sources_fit k r less));
  times = all-map (IsSizedTask d.size) (built_task d) d.tasks (task-sized d u);
}

pub system-kept : (d : DraftLists) → IsUnrefused d → All (λ t. has_executions t ≡ true) d.tasks → IsSystem (system_of d)
unfolding system_of built_task
system-kept d u given = record {
  sized = sized-kept d u;
  few_resources = rw (length-map d.resources built_resource) (le_trans u.few_resources (resources-most d.size));
  few_sources = rw (length-map d.sources built_source) (le_trans u.few_sources (sources-most d.size));
  few_tasks = rw (length-map d.tasks (built_task d)) (le_trans u.few_tasks (tasks-most d.size));
  few_paths = rw (length-map d.paths (built_path d)) (le_trans u.few_paths (paths-most d.size));
  resources = all-map IsResource built_resource d.resources (λ k r less. resource-kept (get_or d.resources k r) (larger-resource d.size (get_or d.resources k r) (u.resources_fit k r less)));
  sources = all-map IsSource built_source d.sources (λ k r less. source-kept d.size (get_or d.sources k r) (u.sources_fit k r less));
  tasks = all-map (IsTask (system_of d)) (built_task d) d.tasks (task-kept-at d u given);
  paths = all-map (IsPath (system_of d)) (built_path d) d.paths (path-kept-at d u);
  chains = chains-kept d u;
  streams = streams-kept d u;
  resources_named = all-map (λ (r : Resource). is_name r.name ≡ true) built_resource d.resources u.resources_named;
  sources_named = all-map (λ (r : Source). is_name r.name ≡ true) built_source d.sources u.sources_named;
  clocks_named = built-named d u.clocks_named;
  clocks = built-clocks d u.short_clocks;
  tasks_named = all-map (λ (t : Task). is_name t.name ≡ true) (built_task d) d.tasks u.tasks_named;
  paths_named = all-map (λ (p : Path). is_name p.name ≡ true) (built_path d) d.paths u.paths_named;
  resource_names = resources-differ d u;
  activity_names = activities-differ d u;
  path_names = paths-differ d u;
  priorities = pairs-map HaveOwnPriorities (built_task d) d.tasks (own-priorities d u);
  locks = pairs-map HaveLocksTogether (built_task d) d.tasks (locks-together d u);
}

-- numbers that fit their types

priority-small : (t : DraftTask) → task_fits Large t ≡ true → nat_or 0 t.priority ≤ 536870911
priority-small t h =
    let fit-locks = and_parts _ _ h in
    let fit-region = and_parts _ _ fit-locks.0 in
    let fit-slot = and_parts _ _ fit-region.0 in
    (may-range 0 536870911 0 t.priority (lit≤ tt, lit≤ tt) (and_parts _ _ fit-slot.0).1).1

pub tasks-fit-types : (d : DraftLists) → IsUnrefused d → All (λ t. has_executions t ≡ true) d.tasks → All (TaskFitsTypes d) d.tasks
unfolding system_of built_task
tasks-fit-types d u given i e less =
    let t = get_or d.tasks i e in
    let know : (is_none (place_of (resource_names d) t.on) ≡ false) × (list_any (λ name. is_nothing (link_of d name)) t.after ≡ false) = or_parts _ _ (u.tasks_know i e less) in
    let number = priority-small t (larger-task d.size (get_or d.tasks i e) (u.tasks_fit i e less)) in
    let rate = rate-kept d u t.on know.0 in
    let within : i < length (system_of d).tasks = rw (length-map d.tasks (built_task d)) less in
    let entry : (task_at (system_of d) i).after ≡ map (built_activator d) t.after = ap (λ (t : Task). t.after) (get_or-map (built_task d) d.tasks i e no_task less) in
    let few = activators-few (system_of d) (system-kept d u given) i within in
    record {
      place = omega (arith, place-kept (resource_names d) t.on know.0, length-map d.resources (λ (r : DraftResource). r.name), u.few_resources, resources-most d.size);
      some = (is_fed d u i e less).some;
      few = omega (arith, ap length entry, length-map t.after (built_activator d), few, streams-kept d u i within);
      activities = λ k name below. omega (arith, active-below d (get_or t.after k name) (know-after d u i k e name less below), u.few_sources, u.few_tasks, sources-most d.size, tasks-most d.size);
      priority = omega arith;
      payload = payload-suits d t (u.tasks_fit i e less) (u.tasks_suit i e less);
      bit = (bit-kept d u t.on know.0).1;
      some_rate = rate.0;
      rate = rate.1;
    }

pub paths-fit-types : (d : DraftLists) → IsUnrefused d → All (λ t. has_executions t ≡ true) d.tasks → All (PathFitsTypes d) d.paths
paths-fit-types d u given i e less =
    let p = get_or d.paths i e in
    let short : length (built_path d p).tasks ≤ 32 = path-short (system_of d) (system-kept d u given) (built_path d p) (path-kept-at d u i e less) in
    let know = u.paths_know i e less in
    record {
      places = λ k name below.
          let h = passes-at (λ name. is_task (link_of d name)) p.tasks k name know below in
          omega (arith, task-below d (get_or p.tasks k name) h, u.few_sources, u.few_tasks, sources-most d.size, tasks-most d.size);
      count = omega (arith, length-map p.tasks (task_named d));
    }
