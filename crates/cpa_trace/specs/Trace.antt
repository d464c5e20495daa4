-- Traces, and when a trace obeys a system.
use Rattle.std.specs.Prelude.{◌≡◌, ℕ, ◌+◌, ◌-◌, ◌*◌, ◌<◌, ◌≤◌, Some, List, [], ◌∷◌, ◌++◌, length, replicate, slice_set, slice_index_or}
use Rattle.cpa_units.specs.declared.limits.TheConstants.{MAX_TRACE_TIME, MAX_PHASE}
use Rattle.cpa_units.specs.Numbers.{IsExecution}
use Rattle.cpa_events.specs.Streams.{stream_delta_minus}
use Rattle.cpa_model.specs.declared.entries.Kind.TheVariants.{Tdma}
use Rattle.cpa_model.specs.Streams.{source_stream}
use Rattle.cpa_model.specs.Clocks.{clock_of, offset_of}
use Rattle.cpa_model.specs.SystemLists.{SystemLists, source_at, task_at, resource_of, cycle_of}

-- per source the times of its events, per task the executions of its jobs, per resource a phase
pub record TraceLists : Type 0 where
  pub times : List (List ℕ)
  pub executions : List (List ℕ)
  pub phases : List ℕ

-- the times of a source's events
abbrev pub times_of : TraceLists → ℕ → List ℕ
times_of tr k = slice_index_or tr.times k []

-- the listed executions of a task's jobs
abbrev pub executions_of : TraceLists → ℕ → List ℕ
executions_of tr i = slice_index_or tr.executions i []

-- the phase of a resource
abbrev pub phase_of : TraceLists → ℕ → ℕ
phase_of tr r = slice_index_or tr.phases r 0

-- the time of an event of a source
abbrev pub time_of : TraceLists → ℕ → ℕ → ℕ
time_of tr k n = slice_index_or (times_of tr k) n 0

-- the time of a source's last event, 0 where it has none
abbrev pub last_time : TraceLists → ℕ → ℕ
last_time tr k = time_of tr k (length (times_of tr k) - 1)

-- what job k of a task needs: its listed execution, or the greatest
abbrev pub need : SystemLists → TraceLists → ℕ → ℕ → ℕ
need s tr i k = slice_index_or (executions_of tr i) k (task_at s i).worst

-- times that don't fall
abbrev pub IsOrdered : List ℕ → Type 0
IsOrdered times = (n : ℕ) → n + 1 < length times → slice_index_or times n 0 ≤ slice_index_or times (n + 1) 0

-- the times of each source never fall
pub record IsTrace (tr : TraceLists) : Type 0 where
  pub ordered : (k : ℕ) → IsOrdered (times_of tr k)

-- a list for each source and each task of a system, and a phase for each resource
pub record FitsSystem (s : SystemLists) (tr : TraceLists) : Type 0 where
  pub sources : length tr.times ≡ length s.sources
  pub tasks : length tr.executions ≡ length s.tasks
  pub resources : length tr.phases ≡ length s.resources

-- the numbers of a trace that is read from a file
pub record IsInRange (tr : TraceLists) : Type 0 where
  pub times : (k n : ℕ) → n < length (times_of tr k) → time_of tr k n ≤ MAX_TRACE_TIME
  pub executions : (i k : ℕ) → k < length (executions_of tr i) → IsExecution (slice_index_or (executions_of tr i) k 0)
  pub phases : (r : ℕ) → phase_of tr r ≤ MAX_PHASE

-- When the trace begins, clock c has run for so long, and of each source on it so many events came before. From then on event number n
-- of each comes from offset + n * period after the clock's start to that and its jitter. No event is left out.
pub record KeepsClock (s : SystemLists) (tr : TraceLists) (c : ℕ) : Type 0 where
  pub lead : ℕ
  pub before : ℕ → ℕ
  pub not_early : (k n : ℕ) → clock_of s k ≡ Some c → n < length (times_of tr k) → offset_of s k + (before k + n) * (source_at s k).period ≤ time_of tr k n + lead
  pub not_late : (k n : ℕ) → clock_of s k ≡ Some c → n < length (times_of tr k)
      → time_of tr k n + lead ≤ offset_of s k + (before k + n) * (source_at s k).period + (source_at s k).jitter

-- a trace obeys a system
pub record Obeys (s : SystemLists) (tr : TraceLists) : Type 0 where
  -- any two events of a source are as far apart as its stream says (Richter): n + gap comes gap events after n
  pub apart : (k n gap : ℕ) → n + gap < length (times_of tr k) → time_of tr k n + stream_delta_minus (source_stream s k) (gap + 1) ≤ time_of tr k (n + gap)
  -- each listed execution is in its task's range, also one whose job never arrives
  pub least : (i k : ℕ) → i < length s.tasks → k < length (executions_of tr i) → (task_at s i).best ≤ need s tr i k
  pub greatest : (i k : ℕ) → i < length s.tasks → k < length (executions_of tr i) → need s tr i k ≤ (task_at s i).worst
  -- the phase of each TDMA resource that has a task is below its cycle
  pub phase : (i gap : ℕ) → i < length s.tasks → (resource_of s i).kind ≡ Tdma gap → phase_of tr (task_at s i).res.0 < cycle_of s (task_at s i).res.0
  -- the events of the sources on a clock come by it
  pub clocks : (c : ℕ) → c < length s.sources → KeepsClock s tr c

-- the trace with no rows
abbrev pub empty_trace : SystemLists → TraceLists
empty_trace s = record { times = replicate (length s.sources) []; executions = replicate (length s.tasks) []; phases = replicate (length s.resources) 0 }

-- a number more in one of some lists
abbrev pub with_more : List (List ℕ) → ℕ → ℕ → List (List ℕ)
with_more lists k number = slice_set lists k (slice_index_or lists k [] ++ number ∷ [])

-- one more event of a source, one more execution of a task, and the phase of a resource
abbrev pub with_event : TraceLists → ℕ → ℕ → TraceLists
with_event tr k time = record tr { times = with_more tr.times k time }

abbrev pub with_execution : TraceLists → ℕ → ℕ → TraceLists
with_execution tr i ticks = record tr { executions = with_more tr.executions i ticks }

abbrev pub with_phase : TraceLists → ℕ → ℕ → TraceLists
with_phase tr r ticks = record tr { phases = slice_set tr.phases r ticks }
