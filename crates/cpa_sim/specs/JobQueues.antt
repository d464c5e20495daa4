-- What the simulator knows of the jobs of one task.
use Rattle.std.specs.Prelude.{ℕ, ◌≡◌, ◌≤◌, ◌+◌, ◌-◌, ◌++◌, nat_le, nat_lt, Bool, if◌then◌else◌, List, [], length, map, Option, Some, None, option_map, slice_index_or, slice_set}
use Rattle.std.specs.List.{range_with_len}
use Rattle.cpa_units.specs.declared.limits.TheConstants.{MAX_TRACE_JOBS}
use Rattle.cpa_sim.specs.declared.jobs.Job.{Job}
use Rattle.cpa_sim.specs.declared.jobs.Cause.{Cause}
use Rattle.cpa_sim.specs.declared.jobs.Causes.{Causes}
use Rattle.cpa_sim.specs.declared.jobs.Keeping.{Keeping}
use Rattle.cpa_sim.specs.Run.{Progress, no_cause, causes_by, ended_count}
use Rattle.cpa_sim.specs.Outcome.{job_of, no_job_seen}

-- how many jobs a task has got so far, how many of them are complete, what the next one to be complete still needs, be it there or yet to come,
-- and for how many there is room; where the jobs are kept, what is seen of them, and where arrivals are kept, when each job arrived
pub record QueueCounts : Type 0 where
  pub count : ℕ
  pub done : ℕ
  pub left : ℕ
  pub room : ℕ
  pub kept : Option (List Job)
  pub came : Option (List ℕ)

-- when each of some jobs arrived
abbrev pub arrivals_of : List Job → List ℕ
arrivals_of jobs = map (λ (job : Job). job.arrival) jobs

-- whether some job is pending
abbrev pub has_pending : QueueCounts → Bool
has_pending queue = nat_lt queue.done queue.count

-- what the earliest of these jobs that isn't complete still needs; where there is none, what the next one needs in all
abbrev pub left_of : (ℕ → ℕ) → List Progress → ℕ
left_of needs jobs = (slice_index_or jobs (ended_count jobs) (record { arrival = 0; left = needs (ended_count jobs); end = None; cause = no_cause })).left

-- what is known of these jobs, of which each needs so much in all, and of what is to be kept of them
abbrev pub queue_of : Keeping → (ℕ → ℕ) → List Progress → QueueCounts
queue_of keeping needs jobs =
    record {
      count = length jobs;
      done = ended_count jobs;
      left = left_of needs jobs;
      room = keeping.room;
      kept = if keeping.jobs then Some (map job_of jobs) else None;
      came = if keeping.arrivals then Some (arrivals_of (map job_of jobs)) else None;
    }

-- no job so far, where the first one needs so much
abbrev pub empty_queue : Keeping → ℕ → QueueCounts
empty_queue keeping need =
    record { count = 0; done = 0; left = need; room = keeping.room; kept = if keeping.jobs then Some [] else None; came = if keeping.arrivals then Some [] else None }

-- what every queue keeps to: its jobs are no more than there is room for, and that is for no more than a trace may have; no more are complete, the
-- next one needs something; where jobs are kept, all are, and so it is with arrivals, for which room has been taken, of which there is so much
pub record IsQueue (queue : QueueCounts) (capacity : Option ℕ) : Type 0 where
  pub few : queue.count ≤ queue.room
  pub room : queue.room ≤ MAX_TRACE_JOBS
  pub within : queue.done ≤ queue.count
  pub some : 1 ≤ queue.left
  pub all : (jobs : List Job) → queue.kept ≡ Some jobs → queue.count ≡ length jobs
  pub all_came : (times : List ℕ) → queue.came ≡ Some times → queue.count ≡ length times
  pub taken : (n : ℕ) → capacity ≡ Some n → queue.room ≤ n

-- the jobs that are kept
abbrev pub kept_of : QueueCounts → List Job
kept_of queue = elim queue.kept [ None ↦ [] | Some jobs ↦ jobs ]

-- the arrivals that are kept
abbrev pub came_of : QueueCounts → List ℕ
came_of queue = elim queue.came [ None ↦ [] | Some times ↦ times ]

-- when the earliest pending job arrived, where arrivals are kept
abbrev pub arrival_of : QueueCounts → ℕ
arrival_of queue = slice_index_or (came_of queue) queue.done 0

-- what stands outside the lists
abbrev pub no_queue : QueueCounts
no_queue = record { count = 0; done = 0; left = 0; room = 0; kept = None; came = None }

-- some causes one after the other
abbrev pub causes_of : Causes → List Cause
causes_of c = causes_by c.by (range_with_len c.first c.count)

-- the jobs that these causes start now, as they are seen then
abbrev pub new_seen : ℕ → List Cause → List Job
new_seen now causes = map (λ cause. record { arrival = now; end = None; cause = cause }) causes

-- a task's jobs with those that these causes start now
abbrev pub with_arrivals : ℕ → List Cause → QueueCounts → QueueCounts
with_arrivals now causes queue =
    record {
      count = queue.count + length causes;
      done = queue.done;
      left = queue.left;
      room = queue.room;
      kept = option_map (λ jobs. jobs ++ new_seen now causes) queue.kept;
      came = option_map (λ times. times ++ arrivals_of (new_seen now causes)) queue.came;
    }

-- the jobs, of which this one is complete now
abbrev pub with_end : ℕ → ℕ → List Job → List Job
with_end done now jobs =
    slice_set jobs done (record { arrival = (slice_index_or jobs done no_job_seen).arrival; end = Some now; cause = (slice_index_or jobs done no_job_seen).cause })

-- a task's jobs once the earliest pending one is complete, where the one after it needs so much; and once it needs so many ticks less
abbrev pub completed_queue : ℕ → ℕ → QueueCounts → QueueCounts
completed_queue next now queue =
    record { count = queue.count; done = queue.done + 1; left = next; room = queue.room; kept = option_map (with_end queue.done now) queue.kept; came = queue.came }

abbrev pub shorter_queue : ℕ → QueueCounts → QueueCounts
shorter_queue ticks queue = record { count = queue.count; done = queue.done; left = queue.left - ticks; room = queue.room; kept = queue.kept; came = queue.came }

-- a task's jobs after it ran for so many ticks
abbrev pub worked : (ℕ → ℕ) → ℕ → ℕ → QueueCounts → QueueCounts
worked needs ticks now queue = if nat_le queue.left ticks then completed_queue (needs (queue.done + 1)) now queue else shorter_queue ticks queue

-- a task's jobs after these ticks, in which it ran or not
abbrev pub served_queue : (ℕ → ℕ) → Bool → ℕ → ℕ → QueueCounts → QueueCounts
served_queue needs runs ticks now queue = if runs then worked needs ticks now queue else queue
