-- What the names of a draft name.
use Rattle.std.specs.Prelude.{◌≡◌, ℕ, ◌-◌, nat_lt, if◌then◌else◌, Bool, true, false, List, ◌++◌, Option, Some, None, map, length, position, option_map}
use Rattle.std.specs.List.{list_any}
use Rattle.std.specs.Str.{bytes_eq}
use Rattle.cpa_draft.specs.DraftLists.{DraftLists, resource_at, task_at}
use Rattle.cpa_draft.specs.declared.draft.DraftResource.{DraftResource}
use Rattle.cpa_draft.specs.declared.draft.DraftSource.{DraftSource}
use Rattle.cpa_draft.specs.declared.draft.DraftTask.{DraftTask}
use Rattle.cpa_draft.specs.declared.draft.KindWord.{KindWord}
use Rattle.cpa_draft.specs.declared.links.Link.{Link}
use Rattle.cpa_draft.specs.declared.links.Link.TheVariants as link

-- the names of each part; sources and tasks share one set of names
abbrev pub resource_names : DraftLists → List (List ℕ)
resource_names d = map (λ (r : DraftResource). r.name) d.resources

abbrev pub source_names : DraftLists → List (List ℕ)
source_names d = map (λ (r : DraftSource). r.name) d.sources

abbrev pub task_names : DraftLists → List (List ℕ)
task_names d = map (λ (t : DraftTask). t.name) d.tasks

abbrev pub activity_names : DraftLists → List (List ℕ)
activity_names d = source_names d ++ task_names d

-- the place of a name in a list
abbrev pub place_of : List (List ℕ) → List ℕ → Option ℕ
place_of names name = position (bytes_eq name) names

-- the kind of the resource with a name
abbrev pub kind_of : DraftLists → List ℕ → Option KindWord
kind_of d name = option_map (λ k. (resource_at d k).kind) (place_of (resource_names d) name)

-- what stands at a place among so many sources and then the tasks
abbrev pub link_at : ℕ → Option ℕ → Link
link_at sources None = link.Nothing
link_at sources (Some k) = if nat_lt k sources then link.Source else link.Task (k - sources)

-- what a name names among sources and tasks
abbrev pub link_of : DraftLists → List ℕ → Link
link_of d name = link_at (length d.sources) (place_of (activity_names d) name)

-- the activators of each task
abbrev pub links_of : DraftLists → List (List Link)
links_of d = map (λ (t : DraftTask). map (link_of d) t.after) d.tasks

abbrev pub is_nothing : Link → Bool
is_nothing link.Nothing = true
is_nothing _ = false

abbrev pub is_task : Link → Bool
is_task (link.Task j) = true
is_task _ = false

-- whether a link is a task and a name is among its activators
abbrev pub is_after : DraftLists → List ℕ → Link → Bool
is_after d name (link.Task j) = list_any (bytes_eq name) (task_at d j).after
is_after d name _ = false

-- tables of the names of the resources, and of the sources and then the tasks
pub record AreTables (d : DraftLists) (resources activities : List (List ℕ)) : Type 0 where
  pub of_resources : resources ≡ resource_names d
  pub of_activities : activities ≡ activity_names d
