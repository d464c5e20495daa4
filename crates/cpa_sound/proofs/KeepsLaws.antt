-- How every run of a system serves its tasks, in their courses.
use Rattle.std.specs.Prelude.{◌≡◌, ℕ, ◌+◌, ◌<◌, ◌≤◌, List, ◌∷◌, length, true}
use Rattle.std.specs.List.{sum_by, AllByRecursion}
use Rattle.cpa_model.specs.declared.entries.Kind.{Kind}
use Rattle.cpa_model.specs.declared.entries.Kind.TheVariants.{Preemptive, RoundRobin, Tdma, Can, Fifo, Ceiling}
use Rattle.cpa_model.specs.SystemLists.{SystemLists, task_at, resource_of, slot_of, shares_resource, is_higher, higher_tasks, other_tasks, cycle_of}
use Rattle.cpa_model.specs.Kinds.{blocking_by}
use Rattle.cpa_local.specs.Blocking.{lower_tasks, blocking_of}
use Rattle.cpa_sound.specs.Course.{Course}
use Rattle.cpa_sound.proofs.Serving.{IsPending, IsNoLater, IsStarted, IsInOrder, AnyOf}
use Rattle.cpa_sound.proofs.Turns.{Turns, TakesTurn, AreTurns}

-- what the tasks of a list have received together
abbrev pub received_by : (ℕ → Course) → List ℕ → ℕ → ℕ
received_by course js t = sum_by (λ j. (course j).received t) js

-- how many ticks each task has had of a region that it is within, 0 where it isn't within one; while the task or a higher one has
-- something to do no lower one begins a region, and where no lower one is within one, one of them runs
pub record RunsByRegions (s : SystemLists) (course : ℕ → Course) (i : ℕ) : Type 0 where
  pub had : ℕ → ℕ → ℕ
  pub short : (j t : ℕ) → j < length s.tasks → is_higher s j i ≡ true → had j t ≤ blocking_by Preemptive (task_at s j)
  pub goes_on : (j t : ℕ) → j < length s.tasks → is_higher s j i ≡ true → AnyOf (λ k. IsPending (course k) t) (i ∷ higher_tasks s i) → 0 < had j (t + 1) → (0 < had j t) × (had j t < had j (t + 1))
  pub serves : (t : ℕ) → AllByRecursion (λ j. had j t ≡ 0) (lower_tasks s i) → AnyOf (λ j. IsPending (course j) t) (i ∷ higher_tasks s i) → received_by course (i ∷ higher_tasks s i) t < received_by course (i ∷ higher_tasks s i) (t + 1)

-- while the task or a higher one has something to do, one of them runs if no lower frame is under way; a frame goes on to its end, and a
-- lower one doesn't start while a higher task waits
pub record RunsByFrames (s : SystemLists) (course : ℕ → Course) (i : ℕ) : Type 0 where
  pub goes_on : (j t : ℕ) → j < length s.tasks → shares_resource s i j ≡ true → IsStarted (course j) t → (course j).received t < (course j).received (t + 1)
  pub gives_way : (j t : ℕ) → j < length s.tasks → is_higher s j i ≡ true → AnyOf (λ k. IsPending (course k) t) (i ∷ higher_tasks s i) → (course j).received t < (course j).received (t + 1) → IsStarted (course j) t
  pub serves : (t : ℕ) → AllByRecursion (λ j. ¬ IsStarted (course j) t) (lower_tasks s i) → AnyOf (λ j. IsPending (course j) t) (i ∷ higher_tasks s i) → received_by course (i ∷ higher_tasks s i) t < received_by course (i ∷ higher_tasks s i) (t + 1)

-- the own ticks of a task before each time, which come again each cycle; while it has something to do it runs in all of them
pub record RunsBySlots (course : ℕ → Course) (i slot cycle : ℕ) : Type 0 where
  pub owned : ℕ → ℕ
  pub more : (t : ℕ) → owned t ≤ owned (t + 1)
  pub one_tick : (t : ℕ) → owned (t + 1) ≤ owned t + 1
  pub again : (t : ℕ) → owned (t + cycle) ≡ owned t + slot
  pub some : 0 < slot
  pub fits : slot ≤ cycle
  pub serves : (t : ℕ) → IsPending (course i) t → owned (t + 1) + (course i).received t ≤ (course i).received (t + 1) + owned t

-- a task on the resource of i
pub record IsOnRing (s : SystemLists) (i j : ℕ) : Type 0 where
  pub task : j < length s.tasks
  pub shares : shares_resource s i j ≡ true

-- while the task has something to do, the ring takes turns
pub record RunsByTurns (s : SystemLists) (course : ℕ → Course) (i : ℕ) : Type 0 where
  pub turns : Turns
  pub are : AreTurns (IsOnRing s i) turns
  pub slots : (j : ℕ) → turns.slot j ≡ slot_of (task_at s j).turn
  pub some : 0 < slot_of (task_at s i).turn
  pub ticks : (t : ℕ) → IsPending (course i) t → TakesTurn (IsOnRing s i) course turns t

-- while the task has something to do, whoever runs on its resource has a job that came no later; while any task of the resource has
-- something to do, one of them runs
pub record RunsByQueue (s : SystemLists) (course : ℕ → Course) (i : ℕ) : Type 0 where
  pub no_later : (j : ℕ) → j < length s.tasks → shares_resource s i j ≡ true → IsNoLater course i j
  pub serves : (t : ℕ) → AnyOf (λ j. IsPending (course j) t) (i ∷ other_tasks s i) → received_by course (i ∷ other_tasks s i) t < received_by course (i ∷ other_tasks s i) (t + 1)

-- in a window in which always the task or a higher one has something to do they lose no more ticks in all than the blocking, in one stretch or not
pub record RunsByCeilings (s : SystemLists) (course : ℕ → Course) (i : ℕ) : Type 0 where
  pub loses : (t u : ℕ) → ((w : ℕ) → t ≤ w → w < t + u → AnyOf (λ j. IsPending (course j) w) (i ∷ higher_tasks s i)) → received_by course (i ∷ higher_tasks s i) t + u ≤ received_by course (i ∷ higher_tasks s i) (t + u) + blocking_of s Ceiling i

-- the rule of each kind, as one task of the resource knows it
abbrev pub RunsByKind : SystemLists → (ℕ → Course) → ℕ → Kind → Type 0
RunsByKind s course i Preemptive = RunsByRegions s course i
RunsByKind s course i RoundRobin = RunsByTurns s course i
RunsByKind s course i (Tdma gap) = RunsBySlots course i (slot_of (task_at s i).turn) (cycle_of s (task_at s i).res.0)
RunsByKind s course i (Can bit) = RunsByFrames s course i × (0 < bit)
RunsByKind s course i Fifo = RunsByQueue s course i
RunsByKind s course i Ceiling = RunsByCeilings s course i

-- how a run serves its tasks: each task's jobs in order, and by the rule of its resource's kind
pub record KeepsSteps (s : SystemLists) (course : ℕ → Course) : Type 0 where
  pub order : (i : ℕ) → i < length s.tasks → IsInOrder (course i) (task_at s i).best (task_at s i).worst
  pub runs : (i : ℕ) → i < length s.tasks → RunsByKind s course i (resource_of s i).kind
