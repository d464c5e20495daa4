-- Lists of jobs in the order in which they came, of which the first ones are complete.
use Rattle.std.proofs.Common.{ℕ, zero, suc, ◌≡◌, ◌<◌, ◌≤◌, ◌-◌, nat_le, false, List, [], ◌∷◌, length, Some, None}
use Rattle.std.specs.Prelude.{if◌then◌else◌, slice_index_or, slice_set}
use Rattle.std.specs.List.{AllByRecursion}
use Rattle.cpa_sim.specs.Run.{Progress, no_job, is_open}

-- a job that isn't complete needs something
pub record IsRunning (job : Progress) : Type 0 where
  pub some : 1 ≤ job.left
  pub open_now : job.end ≡ None

-- the first so many jobs are complete, and no other
abbrev pub AreInOrder : ℕ → List Progress → Type 0
AreInOrder zero jobs = AllByRecursion IsRunning jobs
AreInOrder (suc done) [] = ⊥
AreInOrder (suc done) (job ∷ jobs) = (is_open job ≡ false) × AreInOrder done jobs

-- the jobs after the one with this number haven't run: each still needs all that it needs
abbrev pub AreFresh : (ℕ → ℕ) → ℕ → List Progress → Type 0
AreFresh needs done jobs = (k : ℕ) → done < k → k < length jobs → (slice_index_or jobs k no_job).left ≡ needs k

-- none needs more than it needs in all
abbrev pub AreWithin : (ℕ → ℕ) → List Progress → Type 0
AreWithin needs jobs = (k : ℕ) → k < length jobs → (slice_index_or jobs k no_job).left ≤ needs k

-- a job after so many ticks more, which ends at this time if it needs no more
abbrev pub after_ticks : ℕ → ℕ → Progress → Progress
after_ticks ticks now job =
    if nat_le job.left ticks then record { arrival = job.arrival; left = 0; end = Some now; cause = job.cause }
    else record { arrival = job.arrival; left = job.left - ticks; end = None; cause = job.cause }

-- the jobs after the earliest that isn't complete has got so many ticks
abbrev pub jobs_after : ℕ → ℕ → ℕ → List Progress → List Progress
jobs_after ticks now done jobs = slice_set jobs done (after_ticks ticks now (slice_index_or jobs done no_job))
