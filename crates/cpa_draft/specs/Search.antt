-- The search for the longest chain up to each task of a draft, and the count of its streams.
use Rattle.std.specs.Prelude.{◌≡◌, ◌+◌, ◌<◌, ◌≤◌, ℕ, Bool, false, nat_le, nat_lt, min, max, List, [], length, Some, slice_index_or}
use Rattle.std.specs.List.{list_any, sum_by}
use Rattle.std.specs.Str.{bytes_eq}
use Rattle.cpa_units.specs.declared.limits.TheConstants.{MAX_CHAIN}
use Rattle.cpa_draft.specs.DraftLists.{DraftLists, task_at}
use Rattle.cpa_draft.specs.Names.{AreTables}
use Rattle.cpa_events.specs.declared.TheConstants.{MAX_STREAMS}
use Rattle.cpa_draft.specs.Chains.{chain_within, count_step, stream_count_within}
use Rattle.cpa_draft.specs.declared.links.Link.{Link}
use Rattle.cpa_draft.specs.declared.links.Link.TheVariants as link
use Rattle.cpa_draft.specs.declared.chains.Mark.{Mark}
use Rattle.cpa_draft.specs.declared.chains.Mark.TheVariants.{New, Open, Known}
use Rattle.cpa_draft.specs.declared.chains.Visit.{Visit}
use Rattle.cpa_draft.specs.declared.chains.Next.{Next}
use Rattle.cpa_draft.specs.declared.chains.Next.TheVariants.{Endless, Chain, Unknown}

-- each task that is an activator is there
abbrev pub AreWithin : List (List Link) → Type 0
AreWithin links = (i k j : ℕ) → slice_index_or (slice_index_or links i []) k link.Source ≡ link.Task j → j < length links

-- how many tasks are known
abbrev pub known_of : Mark → ℕ
known_of (Known n) = 1
known_of _ = 0

abbrev pub known_count : List Mark → ℕ
known_count marks = sum_by known_of marks

-- Each number that is known is that of the longest chain up to the task, and at least so many tasks are known.
abbrev pub KnowsChains : List (List Link) → List Mark → Type 0
KnowsChains links marks = (i n : ℕ) → slice_index_or marks i New ≡ Known n → (chain_within links n i ≡ Some n) × (n ≤ known_count marks)

-- no task waits
abbrev pub NoneOpen : List Mark → Type 0
NoneOpen marks = (i k : ℕ) → slice_index_or marks i New ≡ Open k → ⊥

-- what is known stays known
abbrev pub StayKnown : List Mark → List Mark → Type 0
StayKnown old new = (i n : ℕ) → slice_index_or old i New ≡ Known n → slice_index_or new i New ≡ Known n

abbrev pub IsKnown : Mark → Type 0
IsKnown mark = (n : ℕ) × (mark ≡ Known n)

-- each task is known
abbrev pub AreAllKnown : List (List Link) → List Mark → Type 0
AreAllKnown links marks = (i : ℕ) → i < length links → IsKnown (slice_index_or marks i New)

-- a chain of too many tasks
abbrev pub is_longer : ℕ → Mark → Bool
is_longer most (Known n) = nat_lt most n
is_longer most _ = false

-- what an activator that is a task gives
abbrev pub next_task : ℕ → Mark → Next
next_task j New = Unknown j
next_task j (Open k) = Endless
next_task j (Known n) = Chain (n + 1)

-- what an activator gives
abbrev pub next_link : List Mark → Link → Next
next_link marks link.Nothing = Endless
next_link marks link.Source = Chain 1
next_link marks (link.Task j) = next_task j (slice_index_or marks j New)

-- the visit with one more activator looked at
abbrev pub seen_more : Visit → ℕ → Visit
seen_more visit tasks = record { task = visit.task; seen = visit.seen + 1; longest = max visit.longest tasks }

abbrev pub new_visit : ℕ → Visit
new_visit task = record { task = task; seen = 0; longest = 1 }

-- the streams that come by some activators, up to one more than may, where those of tasks are counted
abbrev pub capped_streams : List ℕ → List Link → ℕ
capped_streams counts ls = min (MAX_STREAMS + 1) (sum_by (λ l. count_step l (λ j. slice_index_or counts j 0)) ls)

-- at each task's place the number of its streams over at most n tasks, up to one more than may
abbrev pub AreStreams : List (List Link) → ℕ → List ℕ → Type 0
AreStreams links n counts = (i : ℕ) → slice_index_or counts i 0 ≡ min (MAX_STREAMS + 1) (stream_count_within links n i)

-- two lists have the same names, however often
abbrev pub HaveSameNames : List (List ℕ) → List (List ℕ) → Type 0
HaveSameNames names others = (name : List ℕ) → list_any (bytes_eq name) others ≡ list_any (bytes_eq name) names

-- a list of names that is looked through, and no set made of it
abbrev pub is_short : List (List ℕ) → Bool
is_short names = nat_le (length names) MAX_STREAMS

-- for each task whose list of activators isn't short, its names
abbrev pub AreLongLists : DraftLists → List (List (List ℕ)) → Type 0
AreLongLists d lists = (i : ℕ) → is_short (task_at d i).after ≡ false → HaveSameNames (task_at d i).after (slice_index_or lists i [])

-- whether a task has too many streams shows by these numbers
abbrev pub TellsTooMany : List (List Link) → List ℕ → Type 0
TellsTooMany links counts = (i : ℕ) → nat_lt MAX_STREAMS (slice_index_or counts i 0) ≡ nat_lt MAX_STREAMS (stream_count_within links MAX_CHAIN i)

-- the tables of all names, and the names of long lists
pub record AreLookedUp (d : DraftLists) (resources activities : List (List ℕ)) (lists : List (List (List ℕ))) : Type 0 where
  pub places : AreTables d resources activities
  pub long : AreLongLists d lists
