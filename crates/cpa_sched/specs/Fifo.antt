-- FIFO resources (first in, first out; first come, first served): the task runs whose earliest pending job arrived first.
use Rattle.std.specs.Prelude.{ℕ, ◌≡◌, ◌<◌, ◌⊎◌, true, Some, None}
use Rattle.std.specs.Option.{ForSome}
use Rattle.cpa_model.specs.SystemLists.{SystemLists}
use Rattle.cpa_sched.specs.Least.{ComesBefore}
use Rattle.cpa_sched.specs.Steps.{ResourceState, ReadyQueue, fifo_step}
use Rattle.cpa_sched.specs.States.{IsWaiting}
use Rattle.cpa_sched.specs.Stretches.{got}

-- while a task waits, some task runs
abbrev pub FifoNeverIdles : Type 0
FifoNeverIdles = (s : SystemLists) (r : ℕ) (st : ResourceState) (q : ReadyQueue) (j : ℕ) → IsWaiting s r q.waits j → (fifo_step s r st q).task ≡ None → ⊥

-- whoever runs waits
abbrev pub FifoWaits : Type 0
FifoWaits = (s : SystemLists) (r : ℕ) (st : ResourceState) (q : ReadyQueue) → ForSome (fifo_step s r st q).task (IsWaiting s r q.waits)

-- no job that is pending comes before the one that runs
abbrev pub FifoComesFirst : Type 0
FifoComesFirst =
    (s : SystemLists) (r : ℕ) (st : ResourceState) (q : ReadyQueue) (k j : ℕ) → (fifo_step s r st q).task ≡ Some k → IsWaiting s r q.waits j
    → ComesBefore q.arrival k j

-- the same job of task k is pending in a later queue p, where each task's earliest pending job is either as before, or arrived later than it
pub record IsLaterFor (s : SystemLists) (r k : ℕ) (q p : ReadyQueue) : Type 0 where
  pub waits : p.waits k ≡ true
  pub same : p.arrival k ≡ q.arrival k
  pub others : (j : ℕ) → IsWaiting s r p.waits j → ((q.waits j ≡ true) × (p.arrival j ≡ q.arrival j)) ⊎ (q.arrival k < p.arrival j)

-- then it runs on: it does so until it is complete
abbrev pub FifoStays : Type 0
FifoStays = (s : SystemLists) (r : ℕ) (st : ResourceState) (q p : ReadyQueue) (k : ℕ) → (fifo_step s r st q).task ≡ Some k → IsLaterFor s r k q p → (fifo_step s r st p).task ≡ Some k

-- so a stretch goes on as long as may be
abbrev pub FifoGoesOn : Type 0
FifoGoesOn = (s : SystemLists) (r : ℕ) (st : ResourceState) (q : ReadyQueue) (n : ℕ) → fifo_step s r st (got q (fifo_step s r st q).task n) ≡ fifo_step s r st q
