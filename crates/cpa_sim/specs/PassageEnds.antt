-- Where the passages along a path end, from its last task to its first.
use Rattle.std.specs.Prelude.{ℕ, ◌≡◌, ◌<◌, ◌+◌, ◌==◌, Bool, false, List, length, drop, Option, Some, None, slice_index_or}
use Rattle.cpa_units.specs.declared.places.TaskId.{TaskId}
use Rattle.cpa_sim.specs.declared.jobs.Job.{Job}
use Rattle.cpa_sim.specs.Outcome.{OutcomeLists, jobs_seen}
use Rattle.cpa_sim.specs.SimText.{passage_end}

-- whether it is this number
abbrev pub is_some_number : ℕ → Option ℕ → Bool
is_some_number m None = false
is_some_number m (Some n) = n == m

-- one of some ends
abbrev pub end_in : List (Option ℕ) → ℕ → Option ℕ
end_in ends m = slice_index_or ends m None

abbrev pub job_end : Job → Option ℕ
job_end job = job.end

-- a task by its place in a list
abbrev pub place_at : List TaskId → ℕ → ℕ
place_at tasks k = (slice_index_or tasks k (record { 0 = 0 })).0

-- these are where the passages of the jobs of the k-th task end, along those after it
abbrev pub AreEnds : OutcomeLists → List TaskId → ℕ → List (Option ℕ) → Type 0
AreEnds o tasks k ends = (m : ℕ) → m < length (jobs_seen o (place_at tasks k)) → end_in ends m ≡ passage_end o (place_at tasks k) m (drop (k + 1) tasks)
