-- The laws of causes that every run keeps up to a time, in the courses of its tasks.
use Rattle.std.specs.Prelude.{◌≡◌, ℕ, ◌+◌, ◌<◌, ◌≤◌, Bool, length, true}
use Rattle.std.specs.List.{list_any}
use Rattle.cpa_model.specs.declared.entries.Activator.{Activator}
use Rattle.cpa_model.specs.declared.entries.Activator.TheVariants.{Source, Task}
use Rattle.cpa_model.specs.Streams.{source_stream}
use Rattle.cpa_model.specs.SystemLists.{SystemLists, task_at}
use Rattle.cpa_sound.specs.Course.{Course}
use Rattle.cpa_sound.specs.JobStreams.{Causes, is_same}
use Rattle.cpa_sound.proofs.Parts.{jobs_in, PartKeepsApart}

-- an activator is among those of task i
abbrev pub Starts : SystemLists → ℕ → Activator → Type 0
Starts s i a = list_any (is_same a) (task_at s i).after ≡ true

-- the jobs of task i that an activator started
abbrev pub started_by : Causes → ℕ → Activator → ℕ → Bool
started_by causes i a k = is_same a (causes i k).by

-- what started the jobs that arrive up to and with a time
pub record KeepsCauses (s : SystemLists) (course : ℕ → Course) (causes : Causes) (last : ℕ) : Type 0 where
  -- it is one of the task's activators
  pub activated : (i k : ℕ) → i < length s.tasks → k < (course i).arrived (last + 1) → Starts s i (causes i k).by
  -- whose events, or jobs, come in their order, each of them once
  pub numbered : (i k : ℕ) → i < length s.tasks → k < (course i).arrived (last + 1) → (causes i k).number ≡ jobs_in (started_by causes i (causes i k).by) k
  -- a task starts a job when one of its own is complete
  pub fed : (i j t : ℕ) → i < length s.tasks → Starts s i (Task (record { 0 = j })) → t ≤ last → jobs_in (started_by causes i (Task (record { 0 = j }))) ((course i).arrived (t + 1)) ≡ (course j).ended t
  -- and what a source starts keeps apart as it says
  pub sourced : (i k : ℕ) → i < length s.tasks → Starts s i (Source (record { 0 = k })) → PartKeepsApart (course i) (started_by causes i (Source (record { 0 = k }))) (source_stream s k) (last + 1)
