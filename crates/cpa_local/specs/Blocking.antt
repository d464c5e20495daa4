-- By how long a job of lower priority that has begun keeps a more urgent one waiting.
use Rattle.std.specs.Prelude.{ℕ, List, filter, fold, max}
use Rattle.cpa_model.specs.declared.entries.Kind.{Kind}
use Rattle.cpa_model.specs.declared.entries.Kind.TheVariants.{Preemptive, RoundRobin, Tdma, Can, Fifo, Ceiling}
use Rattle.cpa_model.specs.Kinds.{blocking_by}
use Rattle.cpa_model.specs.Locks.{ceiling_blocking}
use Rattle.cpa_model.specs.SystemLists.{SystemLists, task_at, task_places, is_higher}

-- the tasks of lower priority on the resource of a task
abbrev pub lower_tasks : SystemLists → ℕ → List ℕ
lower_tasks s i = filter (λ j. is_higher s j i) (task_places s)

-- by how long a job of task j keeps one of task i waiting, which is more urgent: by what the kind says, and under ceilings by critical sections
-- besides
abbrev pub blocking_between : SystemLists → Kind → ℕ → ℕ → ℕ
blocking_between s Preemptive i j = blocking_by Preemptive (task_at s j)
blocking_between s RoundRobin i j = blocking_by RoundRobin (task_at s j)
blocking_between s (Tdma gap) i j = blocking_by (Tdma gap) (task_at s j)
blocking_between s (Can bit) i j = blocking_by (Can bit) (task_at s j)
blocking_between s Fifo i j = blocking_by Fifo (task_at s j)
blocking_between s Ceiling i j = ceiling_blocking s i j

-- the greatest of task i by one of lower priority, 0 if there are none
abbrev pub blocking_of : SystemLists → Kind → ℕ → ℕ
blocking_of s kind i = fold (λ most j. max most (blocking_between s kind i j)) 0 (lower_tasks s i)
