-- Locks in a run, under immediate priority ceilings (Sha, Rajkumar, Lehoczky, 1990; Baker, 1991).
use Rattle.std.specs.Prelude.{ℕ, ◌+◌, ◌&&◌, ◌≡◌, nat_lt, Bool, true, List}
use Rattle.std.specs.List.{list_any}
use Rattle.std.specs.Str.{bytes_eq}
use Rattle.cpa_model.specs.declared.locks.CriticalSection.{CriticalSection}
use Rattle.cpa_model.specs.SystemLists.{SystemLists, task_at}
use Rattle.cpa_trace.specs.Trace.{TraceLists}
use Rattle.cpa_sim.specs.Run.{waits, ready_at, run}

-- whether a job that has had so many ticks holds a lock: of a critical section it has had the first tick, and not the last
abbrev pub holds : List ℕ → List CriticalSection → ℕ → Bool
holds lock locks received = list_any (λ (c : CriticalSection). bytes_eq lock c.lock && (nat_lt c.start received && nat_lt received (c.start + c.length))) locks

-- how many ticks the earliest pending job of a task has had by a time
abbrev pub had_by : SystemLists → TraceLists → ℕ → ℕ → ℕ
had_by s tr t i = (ready_at s tr (run s tr t).jobs).received i

-- at a time a job of a task is pending that holds a lock
pub record HoldsLock (s : SystemLists) (tr : TraceLists) (t : ℕ) (lock : List ℕ) (i : ℕ) : Type 0 where
  pub pending : waits ((run s tr t).jobs i) ≡ true
  pub within : holds lock (task_at s i).locks (had_by s tr t i) ≡ true
