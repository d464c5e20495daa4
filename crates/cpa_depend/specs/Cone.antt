-- Which resources read which, and cones: the task dependency graph of compositional performance analysis (SymTA/S, pyCPA),
-- told by resources.
use Rattle.std.specs.Prelude.{ℕ, ◌≡◌, ◌<◌, ◌↔◌, List, [], Bool, true, false, length, slice_index_or}
use Rattle.cpa_units.specs.Sets.{holds, Members}
use Rattle.cpa_model.specs.SystemLists.{SystemLists, task_at, is_activated_by}

-- an edge of the graph: each completion of task j starts a job of task i
abbrev pub Activates : SystemLists → ℕ → ℕ → Type 0
Activates s j i = is_activated_by s j i ≡ true

-- j is earlier in a chain of i: it leads to it by one activation or several
pub data LeadsTo (s : SystemLists) : ℕ → ℕ → Type 0 where
  directly : {j i : ℕ} → Activates s j i → LeadsTo s j i
  through : {j k i : ℕ} → LeadsTo s j k → Activates s k i → LeadsTo s j i

-- The analysis of resource r depends on the bounds of tasks on q: r is q, or a task on q leads to one on r, since inputs
-- come along chains.
pub data Reads (s : SystemLists) : ℕ → ℕ → Type 0 where
  itself : {r : ℕ} → Reads s r r
  earlier : {j i : ℕ} → LeadsTo s j i → Reads s (task_at s i).res.0 (task_at s j).res.0

-- the resources to analyse anew once those of `from` have other bounds: the least set that has those and every resource
-- that reads a member
pub data InCone (s : SystemLists) (from : ℕ → Type 0) : ℕ → Type 0 where
  start : {r : ℕ} → from r → InCone s from r
  reader : {r q : ℕ} → Reads s r q → InCone s from q → InCone s from r

-- a table has, at the place of each resource, the set of those that it reads
abbrev pub AreReads : SystemLists → List (List Bool) → Type 0
AreReads s table = (r : ℕ) → r < length s.resources → (q : ℕ) → Members (slice_index_or table r []) q ↔ Reads s r q

-- an earlier task of a chain of i is on q
abbrev pub HasEarlierOn : SystemLists → ℕ → ℕ → Type 0
HasEarlierOn s i q = (j : ℕ) × LeadsTo s j i × ((task_at s j).res.0 ≡ q)

-- a task on r has an earlier task of a chain of it on r
abbrev pub LeadsBack : SystemLists → ℕ → Type 0
LeadsBack s r = (i : ℕ) × (i < length s.tasks) × ((task_at s i).res.0 ≡ r) × HasEarlierOn s i r

-- each resource that reads a member is one
abbrev pub IsClosedUnder : SystemLists → List Bool → Type 0
IsClosedUnder s set = (r q : ℕ) → Reads s r q → Members set q → Members set r

-- the wider set has all members and one more, and each of its members is in the cone
pub record IsWiderWithin (s : SystemLists) (set wider : List Bool) : Type 0 where
  pub all : (r : ℕ) → Members set r → Members wider r
  pub within : (r : ℕ) → Members wider r → InCone s (Members set) r
  pub more : (r : ℕ) × (r < length s.resources) × (holds set r ≡ false) × Members wider r
