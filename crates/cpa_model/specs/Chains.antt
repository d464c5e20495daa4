-- Chains: following activators from a task back to its sources.
use Rattle.std.specs.Prelude.{ℕ, zero, suc, List, [], ◌∷◌, Option, Some, None, option_map, map, fold, slice_index_or}
use Rattle.std.specs.List.{flat_map}
use Rattle.cpa_units.specs.declared.places.SourceId.{SourceId}
use Rattle.cpa_draft.specs.Chains.{longer}
use Rattle.cpa_model.specs.declared.entries.Activator.{Activator}
use Rattle.cpa_model.specs.declared.entries.Activator.TheVariants.{Source, Task as ByTask}
use Rattle.cpa_model.specs.declared.entries.Task.{Task}

-- the activators of each task
abbrev pub activators : List Task → List (List Activator)
activators tasks = map (λ (t : Task). t.after) tasks

-- one step along a chain: a source ends it, and a task leads on
abbrev pub chain_step : Activator → (ℕ → Option ℕ) → Option ℕ
chain_step (Source k) deeper = Some 1
chain_step (ByTask j) deeper = option_map suc (deeper j.0)

-- the longest chain over some activators; a task without any is a chain of its own
abbrev pub chain_steps : List Activator → (ℕ → Option ℕ) → Option ℕ
chain_steps many deeper = fold (λ longest a. longer longest (chain_step a deeper)) (Some 1) many

-- The number of tasks in the longest chain from task i back to a source, itself included. None if activators can be
-- followed further than n tasks.
unfoldable pub depth_within : List (List Activator) → ℕ → ℕ → Option ℕ
depth_within links zero i = None
depth_within links (suc n) i = chain_steps (slice_index_or links i []) (depth_within links n)

-- one step to the sources whose streams reach a task: a source gives itself alone, and a task its own
abbrev pub streams_step : Activator → (ℕ → List SourceId) → List SourceId
streams_step (Source k) deeper = k ∷ []
streams_step (ByTask j) deeper = deeper j.0

-- the sources whose streams reach task i, those of each activator in their order, that are met within n tasks
unfoldable pub streams_within : List (List Activator) → ℕ → ℕ → List SourceId
streams_within links zero i = []
streams_within links (suc n) i = flat_map (λ a. streams_step a (streams_within links n)) (slice_index_or links i [])
