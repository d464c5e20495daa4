-- Between which places of a list of tasks those stand that wait, and since when their jobs came.
use Rattle.std.specs.Prelude.{ℕ, ◌≡◌, ◌<◌, ◌≤◌, Bool, true, List, length, slice_index_or}
use Rattle.cpa_model.specs.Kinds.{is_queue}
use Rattle.cpa_model.specs.SystemLists.{SystemLists}
use Rattle.cpa_sched.specs.States.{IsWaiting}
use Rattle.cpa_sched.specs.Steps.{kind_of}
use Rattle.cpa_sched.specs.declared.orders.WaitingRange.{WaitingRange}

-- the task at a place stands between these places too, and no later
pub record StandsWithin (js : List ℕ) (waiters : WaitingRange) (p : ℕ) : Type 0 where
  pub place : ℕ
  pub first : waiters.first ≤ place
  pub last : place ≤ waiters.last
  pub early : place ≤ p
  pub same : slice_index_or js place 0 ≡ slice_index_or js p 0

-- each task of a list that waits stands between them
abbrev pub HasWaitingRange : List ℕ → (ℕ → Bool) → WaitingRange → Type 0
HasWaitingRange js waits waiters = (p : ℕ) → p < length js → waits (slice_index_or js p 0) ≡ true → StandsWithin js waiters p

-- on a queue: of no task that waits the earliest pending job arrived before this
abbrev pub CameSince : SystemLists → ℕ → (ℕ → Bool) → (ℕ → ℕ) → ℕ → Type 0
CameSince s r waits arrival since = is_queue (kind_of s r) ≡ true → (j : ℕ) → IsWaiting s r waits j → since ≤ arrival j
