-- Tasks of one resource under immediate priority ceilings (Sha, Rajkumar, Lehoczky, 1990; Baker, 1991).
use Rattle.std.specs.Prelude.{ℕ, ◌+◌, ◌-◌, ◌<◌, ◌≤◌, ◌≡◌, List}
use Rattle.std.specs.List.{AllByRecursion}
use Rattle.cpa_model.specs.Locks.{Section}
use Rattle.cpa_sched.specs.Locks.{urgency}
use Rattle.cpa_sound.specs.Course.{Course}
use Rattle.cpa_sound.proofs.Serving.{work, IsPending, IsInOrder}

-- what begins within the first section ends within it
abbrev pub HoldsWhole : Section → Section → Type 0
HoldsWhole x y = x.start < y.start → y.start < x.start + x.ticks → y.start + y.ticks ≤ x.start + x.ticks

-- any two sections of a task nest or are apart
abbrev pub AreNested : List Section → Type 0
AreNested sections = AllByRecursion (λ x. AllByRecursion (HoldsWhole x) sections) sections

-- what the earliest job that isn't complete has had
abbrev pub had : Course → ℕ → ℕ
had c t = c.received t - work c.needs (c.ended t)

-- a task runs in a tick
abbrev pub Runs : Course → ℕ → Type 0
Runs c t = c.received t < c.received (t + 1)

-- how urgent the job of a task is at a time, by its active priority: the smaller the more
abbrev pub urgency_at : (ℕ → Course) → (ℕ → ℕ) → (ℕ → List Section) → ℕ → ℕ → ℕ
urgency_at course priority sections t j = urgency (priority j) (sections j) (had (course j) t)

-- of some tasks this one runs in a tick, no pending job is more urgent, and no other task runs
pub record IsServed (course : ℕ → Course) (priority : ℕ → ℕ) (sections : ℕ → List Section) (on : ℕ → Type 0) (t c : ℕ) : Type 0 where
  pub runs : Runs (course c) t
  pub first : (j : ℕ) → on j → IsPending (course j) t → urgency_at course priority sections t c ≤ urgency_at course priority sections t j
  pub alone : (j : ℕ) → on j → Runs (course j) t → j ≡ c

-- the tasks of a resource, with their jobs served in order and their sections nested: in each tick in which one of them has a job pending,
-- the most urgent one runs
pub record KeepsCeilings (course : ℕ → Course) (best worst priority : ℕ → ℕ) (sections : ℕ → List Section) (on : ℕ → Type 0) : Type 0 where
  pub order : (j : ℕ) → on j → IsInOrder (course j) (best j) (worst j)
  pub nested : (j : ℕ) → on j → AreNested (sections j)
  pub serves : (t j : ℕ) → on j → IsPending (course j) t → (c : ℕ) × on c × IsServed course priority sections on t c
