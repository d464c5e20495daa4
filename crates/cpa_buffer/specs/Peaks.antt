-- How many jobs were pending at once, as a finished run shows it.
use Rattle.std.specs.Prelude.{ℕ, ◌≡◌, ◌-◌, nat_le, List, map, length, count_by}
use Rattle.std.specs.List.{flat_map, range_with_len}
use Rattle.std.specs.Option.{option_to_list}
use Rattle.cpa_model.specs.SystemLists.{SystemLists, task_places}
use Rattle.cpa_trace.specs.Trace.{TraceLists}
use Rattle.cpa_sim.specs.declared.jobs.Job.{Job}
use Rattle.cpa_sim.specs.Outcome.{OutcomeLists, outcome_of}
use Rattle.cpa_buffer.specs.Buffers.{peak_of, peak_on}

-- when the jobs of a task arrived, and when those that are complete ended
abbrev pub arrivals_of : List Job → List ℕ
arrivals_of jobs = map (λ (job : Job). job.arrival) jobs

abbrev pub ends_of : List Job → List ℕ
ends_of jobs = flat_map (λ (job : Job). option_to_list job.end) jobs

-- how many of some times have come
abbrev pub come_by : ℕ → List ℕ → ℕ
come_by t times = count_by (λ time. nat_le time t) times

-- how many have arrived and not left
abbrev pub inside : List ℕ → List ℕ → ℕ → ℕ
inside arrivals ends t = come_by t arrivals - come_by t ends

-- per task and per resource the greatest number of pending jobs
pub record PeakLists : Type 0 where
  pub tasks : List ℕ
  pub resources : List ℕ

-- those of a run up to its end
unfoldable pub peaks_of : SystemLists → TraceLists → PeakLists
peaks_of s tr = record { tasks = map (peak_of s tr) (task_places s); resources = map (peak_on s tr) (range_with_len 0 (length s.resources)) }

-- an outcome is the run of some trace
pub record IsRun (s : SystemLists) (o : OutcomeLists) : Type 0 where
  pub trace : TraceLists
  pub is : o ≡ outcome_of s trace
