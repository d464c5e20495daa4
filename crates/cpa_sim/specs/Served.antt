-- Which job gets a tick on a resource.
use Rattle.std.specs.Prelude.{ℕ, ◌+◌, if◌then◌else◌, List, [], ◌∷◌, Option, option_map}
use Rattle.cpa_model.specs.SystemLists.{SystemLists}
use Rattle.cpa_trace.specs.Trace.{TraceLists}
use Rattle.cpa_sim.specs.declared.jobs.Served.{Served}
use Rattle.cpa_sim.specs.Run.{Progress, is_open, choice_at, run}

-- the number of the earliest job that isn't complete
abbrev pub first_open : List Progress → ℕ
first_open [] = 0
first_open (job ∷ jobs) = if is_open job then 0 else first_open jobs + 1

-- a job of a task
abbrev pub numbered : (ℕ → ℕ) → ℕ → Served
numbered number i = record { task = record { 0 = i }; job = number i }

-- the job that gets the tick on a resource: the earliest pending one of the task that the step rule chooses
unfoldable pub served_at : SystemLists → TraceLists → ℕ → ℕ → Option Served
served_at s tr t r = option_map (numbered (λ i. first_open ((run s tr t).jobs i))) (choice_at s tr t (run s tr t) r).task
