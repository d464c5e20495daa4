-- No reason applies to the redraft of a system.
use Rattle.std.proofs.Common.{◌≡◌, ℕ, ◌+◌, ◌-◌, ◌<◌, Bool, true, false, not, ◌||◌, nat_le, nat_lt, List, [], ◌++◌, map, length, get_or, None, is_none, refl, sym, ap, ◌∙◌, arith, length-append}
use Rattle.std.specs.List.{list_all, list_any, range_with_len}
use Rattle.std.specs.Str.{bytes_eq}
use Rattle.std.proofs.lemmas.List.Folds.{map_fixed}
use Rattle.std.proofs.lemmas.Bool.{lt-leb, le-ltb}
use Rattle.std.proofs.lemmas.List.{length-map, get_or-map, get_or_append_left}
use Rattle.std.proofs.lemmas.List.FromFn.{get_or-range_with_len, length-range_with_len}
use Rattle.cpa_units.specs.Name.{is_name}
use Rattle.cpa_units.specs.declared.places.TaskId.{TaskId}
use Rattle.cpa_draft.specs.First.{first_place, first_known}
use Rattle.cpa_draft.specs.Names.{source_names, resource_names, place_of, kind_of, link_of, links_of, is_nothing, is_task, is_after}
use Rattle.cpa_draft.specs.DraftLists.{task_at as draft_task_at, no_task as no_draft_task}
use Rattle.cpa_draft.specs.Refusals.{has_clock_name, have_lock_names, resource_fits, source_fits, task_fits, path_fits, resource_misfits, task_misfits, is_crossed, is_linked, is_misfed, has_double}
use Rattle.cpa_draft.specs.Chains.{stream_count_within}
use Rattle.cpa_draft.proofs.FirstLemmas.{all_unmarked}
use Rattle.cpa_draft.proofs.Maps.{list_any-map}
use Rattle.cpa_draft.specs.declared.draft.DraftResource.{DraftResource}
use Rattle.cpa_draft.specs.declared.draft.DraftSource.{DraftSource}
use Rattle.cpa_draft.specs.declared.draft.DraftTask.{DraftTask}
use Rattle.cpa_draft.specs.declared.draft.DraftPath.{DraftPath}
use Rattle.cpa_draft.proofs.ListLaws.{all-map, none-any, all-list_all, map-map}
use Rattle.cpa_draft.proofs.NameLaws.{Differ, same-bytes, differ-new}
use Rattle.cpa_draft.proofs.UnrefusedLaws.{IsUnrefused}
use Rattle.cpa_model.specs.declared.entries.Source.{Source}
use Rattle.cpa_model.specs.declared.entries.Task.{Task}
use Rattle.cpa_model.specs.declared.entries.Path.{Path}
use Rattle.cpa_model.specs.declared.entries.Activator.{Activator}
use Rattle.cpa_model.specs.declared.entries.Activator.TheVariants as activator
use Rattle.cpa_model.specs.SystemLists.{SystemLists, resource_at, task_at, activator_name, streams_of, is_task as is_the_task, no_resource, no_task}
use Rattle.cpa_model.specs.Chains.{activators}
use Rattle.cpa_model.specs.Rules.{IsSystem, IsTask, IsPath}
use Rattle.cpa_model.specs.Redraft.{redraft_resource, redraft_source, redraft_task, redraft_path, redraft}
use Rattle.cpa_model.proofs.ActivatorLaws.{task-one}
use Rattle.cpa_model.proofs.BuiltLaws.{link_from, streams-same}
use Rattle.cpa_model.proofs.DraftClocks.{redraft-clocks}
use Rattle.cpa_model.proofs.DraftSections.{any-more}
use Rattle.cpa_model.proofs.LockLaws.{are-sections}
use Rattle.cpa_model.proofs.RedraftLocks.{locks-named, all-locked}
use Rattle.cpa_model.proofs.RedraftNames.{place_of-resource, link_of-task, link_of-activator, links_of-redraft, names-differ, tasks-redraft, task_at-redraft, kind_of-redraft}
use Rattle.cpa_model.proofs.RedraftNumbers.{resource-fits, source-fits, task-fits, path-fits, resource-suits, task-suits, task-ordered}
use Rattle.cpa_model.proofs.RedraftRanks.{ranks-own}
use Rattle.cpa_model.proofs.RedraftChains.{chains-short, chains-sourced}

-- names

-- entries whose names differ are new
entries-new : {X Y : Type 0} (name : Y → List ℕ) (f : X → Y) (before : List (List ℕ)) (xs : List X) → Differ (before ++ map (λ x. name (f x)) xs) → first_known name before (map f xs) ≡ None
entries-new name f before xs differ = differ-new name before (map f xs) (rw (map-map f name xs) differ)

-- the first of two lists of names that differ
differ-left : (xs ys : List (List ℕ)) → Differ (xs ++ ys) → Differ xs
differ-left xs ys differ i j d before less same =
    differ i j d before (omega (arith, length-append xs ys))
    (get_or_append_left xs ys d i (omega arith) ∙ same ∙ sym (get_or_append_left xs ys d j less))

-- the names of the sources stay
source_names-redraft : (s : SystemLists) → source_names (redraft s) ≡ map (λ (r : Source). r.name) s.sources
unfolding redraft
source_names-redraft s = map-map redraft_source (λ (r : DraftSource). r.name) s.sources

-- a link from an activator is something
something : (a : Activator) → is_nothing (link_from a) ≡ false
something (activator.Source k) = refl
something (activator.Task j) = refl

-- the resource and the activators of a task are known
task-knows : (s : SystemLists) → IsSystem s → (t : Task) → IsTask s t
    → (is_none (place_of (resource_names (redraft s)) (resource_at s t.res.0).name) || list_any (λ name. is_nothing (link_of (redraft s) name)) (map (activator_name s) t.after)) ≡ false
task-knows s rules t fits =
    rw (place_of-resource s rules t.res.0 fits.placed)
    (none-any (λ name. is_nothing (link_of (redraft s) name)) (map (activator_name s) t.after)
    (all-map (λ name. is_nothing (link_of (redraft s) name) ≡ false) (activator_name s) t.after
    (λ k a less. ap is_nothing (link_of-activator s rules (get_or t.after k a) (fits.activated k a less)) ∙ something (get_or t.after k a))))

-- the tasks of a path are known
path-knows : (s : SystemLists) → IsSystem s → (p : Path) → IsPath s p → list_all (λ name. is_task (link_of (redraft s) name)) (redraft_path s p).tasks ≡ true
path-knows s rules p path =
    all-list_all (λ name. is_task (link_of (redraft s) name)) (redraft_path s p).tasks
    (all-map (λ name. is_task (link_of (redraft s) name) ≡ true) (λ (i : TaskId). (task_at s i.0).name) p.tasks
    (λ k i less. ap is_task (link_of-task s rules (get_or p.tasks k i).0 (path.there k i less))))

-- paths

-- what stands outside a path
no_id : TaskId
no_id = record { 0 = 0 }

-- the name of a task of a path
path-name : (s : SystemLists) (p : Path) (k : ℕ) → k < length p.tasks → get_or (redraft_path s p).tasks k [] ≡ (task_at s (get_or p.tasks k no_id).0).name
path-name s p k less = get_or-map (λ (i : TaskId). (task_at s i.0).name) p.tasks k no_id [] less

-- a task that is among activators is so by its name
named-among : (s : SystemLists) (i : TaskId) (many : List Activator) → list_any (is_the_task i.0) many ≡ true → list_any (bytes_eq (task_at s i.0).name) (map (activator_name s) many) ≡ true
named-among s i many h =
    list_any-map (bytes_eq (task_at s i.0).name) (activator_name s) many
    ∙ any-more (is_the_task i.0) (λ a. bytes_eq (task_at s i.0).name (activator_name s a)) many
    (λ a is. ap (λ b. bytes_eq (task_at s i.0).name (activator_name s b)) (task-one i.0 a is) ∙ same-bytes (task_at s i.0).name) h

-- each task of a path is among the activators of the next
after-one : (s : SystemLists) → IsSystem s → (p : Path) → IsPath s p → (k : ℕ) → k + 1 < length p.tasks
    → is_after (redraft s) (get_or (redraft_path s p).tasks k []) (link_of (redraft s) (get_or (redraft_path s p).tasks (k + 1) [])) ≡ true
unfolding no_id
after-one s rules p path k less =
    let i = get_or p.tasks k no_id in
    let j = get_or p.tasks (k + 1) no_id in
    let there : j.0 < length s.tasks = path.there (k + 1) no_id less in
    let entry : (draft_task_at (redraft s) j.0).after ≡ map (activator_name s) (task_at s j.0).after = ap (λ (t : DraftTask). t.after) (task_at-redraft s j.0 no_draft_task there) in
    rw (path-name s p k (omega arith), path-name s p (k + 1) less, link_of-task s rules j.0 there, entry)
    (named-among s i (task_at s j.0).after (path.linked k less))

-- so a path is linked
path-linked : (s : SystemLists) → IsSystem s → (p : Path) → IsPath s p → is_linked (redraft s) (redraft_path s p).tasks ≡ true
path-linked s rules p path = all-list_all test places each
  where
    names : List (List ℕ)
    names = (redraft_path s p).tasks

    test : ℕ → Bool
    test k = is_after (redraft s) (get_or names (k - 1) []) (link_of (redraft s) (get_or names k []))

    places : List ℕ
    places = range_with_len 1 (length names - 1)

    each : (i d : ℕ) → i < length places → test (get_or places i d) ≡ true
    each i d less =
        let count : length names ≡ length p.tasks = length-map p.tasks (λ (i : TaskId). (task_at s i.0).name) in
        let short : i < length names - 1 = omega (arith, length-range_with_len 1 (length names - 1)) in
        let place : get_or places i d ≡ i + 1 = get_or-range_with_len 1 (length names - 1) i d short ∙ omega arith in
        let before : i + 1 - 1 ≡ i = omega arith in
        ap test place ∙ ap (λ m. is_after (redraft s) (get_or names m []) (link_of (redraft s) (get_or names (i + 1) []))) before ∙ after-one s rules p path i (omega arith)

-- a path has some tasks, and they are linked
path-suits : (s : SystemLists) → IsSystem s → (p : Path) → IsPath s p → (nat_le (length (redraft_path s p).tasks) 0 || not (is_linked (redraft s) (redraft_path s p).tasks)) ≡ false
path-suits s rules p path =
    let some : nat_le (length (redraft_path s p).tasks) 0 ≡ false = lt-leb _ _ (rw (length-map p.tasks (λ (i : TaskId). (task_at s i.0).name)) path.some) in
    rw (some, path-linked s rules p path) refl

-- what a task has suits the kind that its resource's name gives
task-suits-there : (s : SystemLists) → IsSystem s → (t : Task) → IsTask s t → task_misfits (kind_of (redraft s) (resource_at s t.res.0).name) (redraft_task s t) ≡ false
task-suits-there s rules t fits = ap (λ o. task_misfits o (redraft_task s t)) (kind_of-redraft s rules t.res.0 fits.placed) ∙ task-suits s t fits

-- reason 14 doesn't apply to a task
names-single : (names : List (List ℕ)) → Differ names → has_double names ≡ false
names-single names differ =
    let same : map (λ name. name) names ≡ names = map_fixed (λ name. name) names (λ k d less. refl) in
    rw (differ-new (λ name. name) [] names (rw same differ)) refl

task-fed : (s : SystemLists) → IsSystem s → (i : ℕ) → i < length s.tasks → is_misfed (redraft s) i (redraft_task s (task_at s i)) ≡ false
task-fed s rules i less =
    let fits = rules.tasks i no_task less in
    let some : nat_le (length (map (activator_name s) (task_at s i).after)) 0 ≡ false = lt-leb _ _ (rw (length-map (task_at s i).after (activator_name s)) fits.some) in
    let single = names-single (map (activator_name s) (task_at s i).after) (names-differ s rules (task_at s i).after fits.activated fits.different) in
    let count : stream_count_within (links_of (redraft s)) 32 i ≡ length (streams_of s i) =
    ap (λ links. stream_count_within links 32 i) (links_of-redraft s rules) ∙ streams-same (activators s.tasks) 32 i in
    let few : nat_lt 32 (stream_count_within (links_of (redraft s)) 32 i) ≡ false = rw count (le-ltb _ _ (rules.streams i less)) in
    rw (some, single, few) refl

all-fed : (s : SystemLists) → IsSystem s → first_place (is_misfed (redraft s)) (redraft s).tasks ≡ None
all-fed s rules =
    all_unmarked (is_misfed (redraft s)) (redraft s).tasks
    (λ i t less. let there : i < length s.tasks = omega (arith, tasks-redraft s) in rw (task_at-redraft s i t there) (task-fed s rules i there))

-- no reason applies
pub redraft-unrefused : (s : SystemLists) → IsSystem s → IsUnrefused (redraft s)
unfolding redraft
redraft-unrefused s rules = record {
  resources_fit = all-map (λ r. resource_fits s.size r ≡ true) redraft_resource s.resources (λ k r less. resource-fits s.size (get_or s.resources k r) (rules.resources k r less) (rules.sized.limits k r less));
  sources_fit = all-map (λ r. source_fits s.size r ≡ true) redraft_source s.sources (λ k r less. source-fits s.size (get_or s.sources k r) (rules.sources k r less) (rules.sized.arrivals k r less));
  tasks_fit = all-map (λ t. task_fits s.size t ≡ true) (redraft_task s) s.tasks (λ k t less. task-fits s.size s (get_or s.tasks k t) (rules.tasks k t less) (rules.sized.times k t less)
      (rules.sized.limits (get_or s.tasks k t).res.0 no_resource (rules.tasks k t less).placed).2);
  paths_fit = all-map (λ p. path_fits s.size p ≡ true) (redraft_path s) s.paths (λ k p less. path-fits s.size s (get_or s.paths k p) (rules.paths k p less));
  resources_named = all-map (λ (r : DraftResource). is_name r.name ≡ true) redraft_resource s.resources rules.resources_named;
  sources_named = all-map (λ (r : DraftSource). is_name r.name ≡ true) redraft_source s.sources rules.sources_named;
  clocks_named = all-map (λ (r : DraftSource). has_clock_name r.clock ≡ true) redraft_source s.sources rules.clocks_named;
  tasks_named = all-map (λ (t : DraftTask). is_name t.name ≡ true) (redraft_task s) s.tasks rules.tasks_named;
  locks_named = all-map (λ (t : DraftTask). have_lock_names t.locks ≡ true) (redraft_task s) s.tasks
      (λ k t less.
      let u = get_or s.tasks k t in
      locks-named u.locks (are-sections (resource_at s u.res.0).kind u.region u.locks (rules.tasks k t less).locks_fit).sections);
  paths_named = all-map (λ (p : DraftPath). is_name p.name ≡ true) (redraft_path s) s.paths rules.paths_named;
  new_resources = entries-new (λ (r : DraftResource). r.name) redraft_resource [] s.resources rules.resource_names;
  new_sources = entries-new (λ (r : DraftSource). r.name) redraft_source [] s.sources (differ-left (map (λ (r : Source). r.name) s.sources) _ rules.activity_names);
  new_tasks = entries-new (λ (t : DraftTask). t.name) (redraft_task s) (source_names (redraft s)) s.tasks (rw (source_names-redraft s) rules.activity_names);
  new_paths = entries-new (λ (p : DraftPath). p.name) (redraft_path s) [] s.paths rules.path_names;
  tasks_know = all-map (λ (t : DraftTask). (is_none (place_of (resource_names (redraft s)) t.on) || list_any (λ name. is_nothing (link_of (redraft s) name)) t.after) ≡ false) (redraft_task s) s.tasks
      (λ k t less. task-knows s rules (get_or s.tasks k t) (rules.tasks k t less));
  paths_know = all-map (λ (p : DraftPath). list_all (λ name. is_task (link_of (redraft s) name)) p.tasks ≡ true) (redraft_path s) s.paths
      (λ k p less. path-knows s rules (get_or s.paths k p) (rules.paths k p less));
  sourced = chains-sourced s rules;
  short = chains-short s rules;
  ranks = ranks-own s rules;
  resources_suit = all-map (λ r. resource_misfits r ≡ false) redraft_resource s.resources (λ k r less. resource-suits (get_or s.resources k r));
  tasks_suit = all-map (λ (t : DraftTask). task_misfits (kind_of (redraft s) t.on) t ≡ false) (redraft_task s) s.tasks
      (λ k t less. task-suits-there s rules (get_or s.tasks k t) (rules.tasks k t less));
  ordered = all-map (λ t. is_crossed t ≡ false) (redraft_task s) s.tasks (λ k t less. task-ordered s (get_or s.tasks k t) (rules.tasks k t less));
  linked = all-map (λ (p : DraftPath). (nat_le (length p.tasks) 0 || not (is_linked (redraft s) p.tasks)) ≡ false) (redraft_path s) s.paths
      (λ k p less. path-suits s rules (get_or s.paths k p) (rules.paths k p less));
  few_resources = rw (length-map s.resources redraft_resource) rules.sized.resources;
  few_sources = rw (length-map s.sources redraft_source) rules.sized.sources;
  few_tasks = rw (length-map s.tasks (redraft_task s)) rules.sized.tasks;
  few_paths = rw (length-map s.paths (redraft_path s)) rules.sized.paths;
  fed = all-fed s rules;
  short_clocks = redraft-clocks s rules;
  locked = all-locked s rules;
}
