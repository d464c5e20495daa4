-- The stream of a job: the place in its task's streams to which its causes lead.
use Rattle.std.specs.Prelude.{ℕ, zero, suc, ◌+◌, Bool, if◌then◌else◌, List, [], ◌∷◌, length}
use Rattle.cpa_units.specs.declared.places.SourceId.{SourceId}
use Rattle.cpa_model.specs.declared.entries.Activator.{Activator}
use Rattle.cpa_model.specs.declared.entries.Activator.TheVariants.{Source, Task}
use Rattle.cpa_model.specs.Chains.{activators, streams_step, streams_within}
use Rattle.cpa_model.specs.SystemLists.{SystemLists, task_at, is_source, is_task}
use Rattle.cpa_sim.specs.declared.jobs.Cause.{Cause}

-- what started each job, by task and number
abbrev pub Causes : Type 0
Causes = ℕ → ℕ → Cause

-- whether two activators are the same
abbrev pub is_same : Activator → Activator → Bool
is_same (Source k) a = is_source k.0 a
is_same (Task j) a = is_task j.0 a

-- how many of the streams of some activators come before those of one of them, where `deeper` says the tasks' streams
abbrev pub streams_before : (ℕ → List SourceId) → Activator → List Activator → ℕ
streams_before deeper a [] = 0
streams_before deeper a (other ∷ others) = if is_same a other then 0 else length (streams_step other deeper) + streams_before deeper a others

-- to which of its activator's streams a job belongs: a source has one alone, and a task hands on its job's stream
abbrev pub handed_on : (ℕ → ℕ → ℕ) → Activator → ℕ → ℕ
handed_on deeper (Source k) number = 0
handed_on deeper (Task j) number = deeper j.0 number

-- the stream of job k of task i, where its causes are followed over n tasks
unfoldable pub stream_within : SystemLists → Causes → ℕ → ℕ → ℕ → ℕ
stream_within s causes zero i k = 0
stream_within s causes (suc n) i k =
    streams_before (streams_within (activators s.tasks) n) (causes i k).by (task_at s i).after
    + handed_on (stream_within s causes n) (causes i k).by (causes i k).number

-- to which source a job's causes lead: that which started it, or that of the job that did
abbrev pub origin_step : (ℕ → ℕ → SourceId) → Activator → ℕ → SourceId
origin_step deeper (Source k) number = k
origin_step deeper (Task j) number = deeper j.0 number

-- the source to which the causes of job k of task i lead, where they are followed over n tasks
unfoldable pub origin_within : Causes → ℕ → ℕ → ℕ → SourceId
origin_within causes zero i k = record { 0 = 0 }
origin_within causes (suc n) i k = origin_step (origin_within causes n) (causes i k).by (causes i k).number
