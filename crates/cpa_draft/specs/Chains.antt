-- Chains of a draft: following activators from a task back to sources.
use Rattle.std.specs.Prelude.{ℕ, zero, suc, List, [], max, Option, Some, None, option_map, is_none, slice_index_or}
use Rattle.std.specs.List.{fold, sum_by}
use Rattle.cpa_draft.specs.First.{first_place}
use Rattle.cpa_draft.specs.declared.links.Link.{Link}
use Rattle.cpa_draft.specs.declared.links.Link.TheVariants.{Nothing, Source, Task}

-- one step along a chain: a source ends it, and a task leads on
abbrev pub link_step : Link → (ℕ → Option ℕ) → Option ℕ
link_step Nothing deeper = None
link_step Source deeper = Some 1
link_step (Task j) deeper = option_map suc (deeper j)

-- the longer of two chains, none where one has no end
abbrev pub longer : Option ℕ → Option ℕ → Option ℕ
longer None other = None
longer (Some n) None = None
longer (Some n) (Some m) = Some (max n m)

-- the longest chain over some activators; a task without any is a chain of its own
abbrev pub links_step : List Link → (ℕ → Option ℕ) → Option ℕ
links_step ls deeper = fold (λ longest l. longer longest (link_step l deeper)) (Some 1) ls

-- The number of tasks of the longest chain up to task i, itself included. None if activators can be followed further
-- than n tasks, or one names nothing.
unfoldable pub chain_within : List (List Link) → ℕ → ℕ → Option ℕ
chain_within links zero i = None
chain_within links (suc n) i = links_step (slice_index_or links i []) (chain_within links n)

-- the place of the first task from which activators can be followed further than n tasks
unfoldable pub first_longer : List (List Link) → ℕ → Option ℕ
first_longer links n = first_place (λ i _. is_none (chain_within links n i)) links

-- what comes by one activator: a source is a stream, and a task has those that come to it
abbrev pub count_step : Link → (ℕ → ℕ) → ℕ
count_step Nothing deeper = 0
count_step Source deeper = 1
count_step (Task j) deeper = deeper j

-- the number of the streams that come to task i over at most n tasks, itself included
unfoldable pub stream_count_within : List (List Link) → ℕ → ℕ → ℕ
stream_count_within links zero i = 0
stream_count_within links (suc n) i = sum_by (λ l. count_step l (stream_count_within links n)) (slice_index_or links i [])
