-- Locks under immediate priority ceilings: within a critical section a job has the ceiling of the lock as its priority (Sha, Rajkumar, Lehoczky,
-- "Priority Inheritance Protocols", 1990; Baker, "Stack-Based Scheduling of Realtime Processes", 1991).
use Rattle.std.specs.Prelude.{ℕ, ◌+◌, ◌-◌, ◌*◌, ◌≤◌, ◌<◌, nat_le, nat_lt, Bool, if◌then◌else◌, min, max, List, map, filter, fold}
use Rattle.std.specs.List.{list_any, range_with_len}
use Rattle.std.specs.Str.{bytes_eq}
use Rattle.cpa_units.specs.declared.limits.TheConstants.{MAX_PRIORITY}
use Rattle.cpa_model.specs.declared.entries.Task.{Task}
use Rattle.cpa_model.specs.declared.locks.CriticalSection.{CriticalSection}
use Rattle.cpa_model.specs.SystemLists.{SystemLists, task_at, tasks_on, priority_of}

-- a critical section as the rule sees it: after how many ticks of each job it begins, how many it has, and the ceiling of its lock
pub record Section : Type 0 where
  pub start : ℕ
  pub ticks : ℕ
  pub ceiling : ℕ

-- whether a task uses a lock
abbrev pub uses_lock : List ℕ → Task → Bool
uses_lock lock t = list_any (λ (c : CriticalSection). bytes_eq lock c.lock) t.locks

-- the tasks of a resource that use a lock
abbrev pub lock_users : SystemLists → ℕ → List ℕ → List ℕ
lock_users s r lock = filter (λ j. uses_lock lock (task_at s j)) (tasks_on s r)

-- the ceiling of a lock: the smallest priority number among its users
abbrev pub ceiling_of : SystemLists → ℕ → List ℕ → ℕ
ceiling_of s r lock = fold (λ least j. min least (priority_of (task_at s j).turn)) MAX_PRIORITY (lock_users s r lock)

abbrev pub section_of : SystemLists → ℕ → CriticalSection → Section
section_of s r c = record { start = c.start; ticks = c.length; ceiling = ceiling_of s r c.lock }

-- the critical sections of a task
abbrev pub lock_sections : SystemLists → ℕ → List Section
lock_sections s j = map (section_of s (task_at s j).res.0) (task_at s j).locks

-- the regions of a task that takes so long at most, in which no other task runs: one after the other from the start of a job, each with the most
-- urgent ceiling
abbrev pub regions_of : ℕ → ℕ → List Section
regions_of region worst = map (λ n. record { start = n * region; ticks = region; ceiling = 0 }) (range_with_len 0 worst)

-- what a task has: critical sections, or regions of more than a tick
abbrev pub sections_of : SystemLists → ℕ → List Section
sections_of s j = if nat_lt 1 (task_at s j).region then regions_of (task_at s j).region (task_at s j).worst else lock_sections s j

-- by how long a section of a job that takes so long at most keeps a job of this priority waiting: by what is left of it after its first tick,
-- where its ceiling is no less urgent
abbrev pub section_blocking : ℕ → ℕ → Section → ℕ
section_blocking priority worst x = if nat_le x.ceiling priority then min x.ticks worst - 1 else 0

-- the greatest of several
abbrev pub blocking_by_sections : ℕ → ℕ → List Section → ℕ
blocking_by_sections priority worst sections = fold (λ most x. max most (section_blocking priority worst x)) 0 sections

-- by how long a job of task j keeps one of task i waiting, which is more urgent: by the rest of a region, or of a critical section
abbrev pub ceiling_blocking : SystemLists → ℕ → ℕ → ℕ
ceiling_blocking s i j =
    max (min (task_at s j).region (task_at s j).worst - 1)
    (blocking_by_sections (priority_of (task_at s i).turn) (task_at s j).worst (lock_sections s j))

-- what begins within the first section ends within it: they nest, or are apart
abbrev pub HoldsWhole : CriticalSection → CriticalSection → Type 0
HoldsWhole x y = x.start < y.start → y.start < x.start + x.length → y.start + y.length ≤ x.start + x.length
