-- What the names of the redraft of a system name there.
use Rattle.std.specs.List.{AllPairs}
use Rattle.std.proofs.lemmas.List.Folds.{map_fixed}
use Rattle.std.proofs.Common.{◌≡◌, ◌≢◌, All, ℕ, ◌+◌, ◌-◌, ◌<◌, ◌≤◌, List, [], map, length, get_or, Some, refl, sym, ap, ◌∙◌, arith, length-append}
use Rattle.std.proofs.lemmas.Bool.{lt-ltb, le-ltb}
use Rattle.std.proofs.lemmas.List.{length-map, get_or-map, get_or_append_left, get_or-append-add}
use Rattle.cpa_units.specs.declared.places.TaskId.{TaskId}
use Rattle.cpa_draft.specs.Names.{resource_names, activity_names as draft_names, place_of, kind_of, link_of, links_of}
use Rattle.cpa_draft.specs.DraftLists.{resource_at as draft_resource_at, no_resource as no_draft_resource}
use Rattle.cpa_draft.specs.declared.draft.DraftResource.{DraftResource}
use Rattle.cpa_draft.specs.declared.draft.DraftSource.{DraftSource}
use Rattle.cpa_draft.specs.declared.draft.DraftTask.{DraftTask}
use Rattle.cpa_draft.specs.declared.links.Link.TheVariants as link
use Rattle.cpa_draft.proofs.ListLaws.{map-map, pairs-map}
use Rattle.cpa_draft.proofs.NameLaws.{Differ, place_of-own}
use Rattle.cpa_model.specs.declared.entries.Resource.{Resource}
use Rattle.cpa_model.specs.declared.entries.Source.{Source}
use Rattle.cpa_model.specs.declared.entries.Task.{Task}
use Rattle.cpa_model.specs.declared.entries.Activator.{Activator}
use Rattle.cpa_model.specs.declared.entries.Activator.TheVariants as activator
use Rattle.cpa_model.specs.Chains.{activators}
use Rattle.cpa_model.specs.SystemLists.{SystemLists, resource_at, source_at, task_at, activator_name, no_resource, no_source, no_task}
use Rattle.cpa_model.specs.Rules.{IsSystem, IsActivator, activity_names}
use Rattle.cpa_model.specs.Built.{built_activator, task_named}
use Rattle.cpa_model.specs.Redraft.{redraft_resource, redraft_source, redraft_task, word_of, redraft}
use Rattle.cpa_model.proofs.BuiltLaws.{link_from, links_from, map-same}

-- the names of the resources stay
pub resource_names-redraft : (s : SystemLists) → resource_names (redraft s) ≡ map (λ (r : Resource). r.name) s.resources
unfolding redraft
resource_names-redraft s = map-map redraft_resource (λ (r : DraftResource). r.name) s.resources

-- and so do those of the sources and tasks
pub activity_names-redraft : (s : SystemLists) → draft_names (redraft s) ≡ activity_names s
unfolding redraft
activity_names-redraft s = rw (map-map redraft_source (λ (r : DraftSource). r.name) s.sources, map-map (redraft_task s) (λ (t : DraftTask). t.name) s.tasks) refl

-- the number of sources stays
pub sources-redraft : (s : SystemLists) → length (redraft s).sources ≡ length s.sources
unfolding redraft
sources-redraft s = length-map s.sources redraft_source

-- and that of tasks
pub tasks-redraft : (s : SystemLists) → length (redraft s).tasks ≡ length s.tasks
unfolding redraft
tasks-redraft s = length-map s.tasks (redraft_task s)

-- the name of an entry is found at its place
place_of-entry : {X : Type 0} (name : X → List ℕ) (xs : List X) (k : ℕ) (d : X) → Differ (map name xs) → k < length xs → place_of (map name xs) (name (get_or xs k d)) ≡ Some k
place_of-entry name xs k d differ less =
    ap (place_of (map name xs)) (sym (get_or-map name xs k d [] less)) ∙ place_of-own (map name xs) k differ (rw (length-map xs name) less)

-- so is that of a resource
pub place_of-resource : (s : SystemLists) → IsSystem s → (k : ℕ) → k < length s.resources → place_of (resource_names (redraft s)) (resource_at s k).name ≡ Some k
place_of-resource s rules k less = rw (resource_names-redraft s) (place_of-entry (λ (r : Resource). r.name) s.resources k no_resource rules.resource_names less)

-- a source's name stands among the activities at the source's place
source-name : (s : SystemLists) (k : ℕ) → k < length s.sources → get_or (activity_names s) k [] ≡ (source_at s k).name
source-name s k less =
    get_or_append_left (map (λ (r : Source). r.name) s.sources) (map (λ (t : Task). t.name) s.tasks) [] k (rw (length-map s.sources (λ (r : Source). r.name)) less)
    ∙ get_or-map (λ (r : Source). r.name) s.sources k no_source [] less

-- and a task's name after those of all sources
task-name : (s : SystemLists) (j : ℕ) → j < length s.tasks → get_or (activity_names s) (length s.sources + j) [] ≡ (task_at s j).name
task-name s j less =
    ap (λ n. get_or (activity_names s) (n + j) []) (sym (length-map s.sources (λ (r : Source). r.name)))
    ∙ get_or-append-add (map (λ (r : Source). r.name) s.sources) (map (λ (t : Task). t.name) s.tasks) j []
    ∙ get_or-map (λ (t : Task). t.name) s.tasks j no_task [] less

-- how many sources and tasks there are
activity_names-count : (s : SystemLists) → length (activity_names s) ≡ length s.sources + length s.tasks
activity_names-count s =
    length-append (map (λ (r : Source). r.name) s.sources) (map (λ (t : Task). t.name) s.tasks)
    ∙ rw (length-map s.sources (λ (r : Source). r.name), length-map s.tasks (λ (t : Task). t.name)) refl

-- a source's name is found at the source's place
pub place_of-source : (s : SystemLists) → IsSystem s → (k : ℕ) → k < length s.sources → place_of (draft_names (redraft s)) (source_at s k).name ≡ Some k
place_of-source s rules k less =
    rw (activity_names-redraft s)
    (ap (place_of (activity_names s)) (sym (source-name s k less))
    ∙ place_of-own (activity_names s) k rules.activity_names (omega (arith, activity_names-count s)))

-- and a task's name after all sources
pub place_of-task : (s : SystemLists) → IsSystem s → (j : ℕ) → j < length s.tasks → place_of (draft_names (redraft s)) (task_at s j).name ≡ Some (length s.sources + j)
place_of-task s rules j less =
    rw (activity_names-redraft s)
    (ap (place_of (activity_names s)) (sym (task-name s j less))
    ∙ place_of-own (activity_names s) (length s.sources + j) rules.activity_names (omega (arith, activity_names-count s)))

-- so a source's name names a source
pub link_of-source : (s : SystemLists) → IsSystem s → (k : ℕ) → k < length s.sources → link_of (redraft s) (source_at s k).name ≡ link.Source
link_of-source s rules k less = rw (place_of-source s rules k less, sources-redraft s, lt-ltb _ _ less) refl

-- and a task's name that task
pub link_of-task : (s : SystemLists) → IsSystem s → (j : ℕ) → j < length s.tasks → link_of (redraft s) (task_at s j).name ≡ link.Task j
link_of-task s rules j less =
    let past : length s.sources ≤ length s.sources + j = omega arith in
    let place : length s.sources + j - length s.sources ≡ j = omega arith in
    rw (place_of-task s rules j less, sources-redraft s, le-ltb _ _ past, place) refl

-- an activator's name is linked as the activator is
pub link_of-activator : (s : SystemLists) → IsSystem s → (a : Activator) → IsActivator s a → link_of (redraft s) (activator_name s a) ≡ link_from a
link_of-activator s rules (activator.Source k) there = link_of-source s rules k.0 there
link_of-activator s rules (activator.Task j) there = link_of-task s rules j.0 there

-- the links are the activators
links-of_names : (s : SystemLists) → IsSystem s → (many : List Activator) → All (IsActivator s) many → map (link_of (redraft s)) (map (activator_name s) many) ≡ links_from many
links-of_names s rules many there =
    map-map (activator_name s) (link_of (redraft s)) many
    ∙ map-same (λ a. link_of (redraft s) (activator_name s a)) link_from many (λ k a less. link_of-activator s rules (get_or many k a) (there k a less))

pub links_of-redraft : (s : SystemLists) → IsSystem s → links_of (redraft s) ≡ map links_from (activators s.tasks)
unfolding redraft
links_of-redraft s rules =
    map-map (redraft_task s) (λ (t : DraftTask). map (link_of (redraft s)) t.after) s.tasks
    ∙ map-same (λ (t : Task). map (link_of (redraft s)) (map (activator_name s) t.after)) (λ (t : Task). links_from t.after) s.tasks
    (λ k t less. links-of_names s rules (get_or s.tasks k t).after (rules.tasks k t less).activated)
    ∙ sym (map-map (λ (t : Task). t.after) links_from s.tasks)

-- an activator's name gives it back
pub activator-back : (s : SystemLists) → IsSystem s → (a : Activator) → IsActivator s a → built_activator (redraft s) (activator_name s a) ≡ a
activator-back s rules (activator.Source k) there = rw (place_of-source s rules k.0 there, sources-redraft s, lt-ltb _ _ there) refl
activator-back s rules (activator.Task j) there =
    let past : length s.sources ≤ length s.sources + j.0 = omega arith in
    let place : length s.sources + j.0 - length s.sources ≡ j.0 = omega arith in
    rw (place_of-task s rules j.0 there, sources-redraft s, le-ltb _ _ past, place) refl

pub activators-back : (s : SystemLists) → IsSystem s → (many : List Activator) → All (IsActivator s) many → map (built_activator (redraft s)) (map (activator_name s) many) ≡ many
activators-back s rules many there =
    map-map (activator_name s) (built_activator (redraft s)) many
    ∙ map_fixed (λ a. built_activator (redraft s) (activator_name s a)) many (λ k a less. activator-back s rules (get_or many k a) (there k a less))

-- so different activators have different names
pub names-differ : (s : SystemLists) → IsSystem s → (many : List Activator) → All (IsActivator s) many → AllPairs (λ a b. a ≢ b) many → Differ (map (activator_name s) many)
names-differ s rules many there different =
    pairs-map (λ first second. first ≢ second) (activator_name s) many
    (λ i j a before less. λ same. different i j a before less
    (sym (activator-back s rules (get_or many i a) (there i a (omega arith))) ∙ ap (built_activator (redraft s)) same ∙ activator-back s rules (get_or many j a) (there j a less)))

-- and so does a task's name
pub task-back : (s : SystemLists) → IsSystem s → (j : TaskId) → j.0 < length s.tasks → task_named (redraft s) (task_at s j.0).name ≡ j
task-back s rules j there =
    let place : length s.sources + j.0 - length s.sources ≡ j.0 = omega arith in
    rw (place_of-task s rules j.0 there, sources-redraft s, place) refl

-- the resources of the redraft by place
pub resource_at-redraft : (s : SystemLists) (k : ℕ) → k < length s.resources → draft_resource_at (redraft s) k ≡ redraft_resource (resource_at s k)
unfolding redraft
resource_at-redraft s k less = get_or-map redraft_resource s.resources k no_resource no_draft_resource less

-- and its tasks
pub task_at-redraft : (s : SystemLists) (j : ℕ) (t : DraftTask) → j < length s.tasks → get_or (redraft s).tasks j t ≡ redraft_task s (task_at s j)
unfolding redraft
task_at-redraft s j t less = get_or-map (redraft_task s) s.tasks j no_task t less

-- the kind of a resource by its name
pub kind_of-redraft : (s : SystemLists) → IsSystem s → (k : ℕ) → k < length s.resources → kind_of (redraft s) (resource_at s k).name ≡ Some (word_of (resource_at s k).kind)
kind_of-redraft s rules k less = rw (place_of-resource s rules k less, resource_at-redraft s k less) refl
