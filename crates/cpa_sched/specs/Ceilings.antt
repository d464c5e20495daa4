-- Ceilings: the task runs whose earliest pending job is the most urgent by its active priority.
use Rattle.std.specs.Prelude.{ℕ, ◌≡◌, ◌<◌, Some, None}
use Rattle.std.specs.Option.{ForSome}
use Rattle.cpa_model.specs.SystemLists.{SystemLists}
use Rattle.cpa_sched.specs.Least.{ComesBefore}
use Rattle.cpa_sched.specs.Locks.{urgency_of}
use Rattle.cpa_sched.specs.Steps.{ResourceState, ReadyQueue, ceiling_step}
use Rattle.cpa_sched.specs.States.{IsWaiting}
use Rattle.cpa_sched.specs.Stretches.{got, ticks_of_section}

-- while a task waits, some task runs
abbrev pub CeilingNeverIdles : Type 0
CeilingNeverIdles = (s : SystemLists) (r : ℕ) (st : ResourceState) (q : ReadyQueue) (j : ℕ) → IsWaiting s r q.waits j → (ceiling_step s r st q).task ≡ None → ⊥

-- whoever runs waits
abbrev pub CeilingWaits : Type 0
CeilingWaits = (s : SystemLists) (r : ℕ) (st : ResourceState) (q : ReadyQueue) → ForSome (ceiling_step s r st q).task (IsWaiting s r q.waits)

-- no job that is pending is more urgent than the one that runs, and of those as urgent none stands before it in the file
abbrev pub CeilingComesFirst : Type 0
CeilingComesFirst =
    (s : SystemLists) (r : ℕ) (st : ResourceState) (q : ReadyQueue) (k j : ℕ) → (ceiling_step s r st q).task ≡ Some k → IsWaiting s r q.waits j
    → ComesBefore (urgency_of s q.received) k j

-- whoever runs does so up to the next end of one of its sections, while no job arrives and none is complete
abbrev pub CeilingStays : Type 0
CeilingStays =
    (s : SystemLists) (r : ℕ) (st : ResourceState) (q : ReadyQueue) (most n : ℕ) → n < ticks_of_section s most (ceiling_step s r st q).task q.received
    → ceiling_step s r st (got q (ceiling_step s r st q).task n) ≡ ceiling_step s r st q
