-- What it is for bounds to hold in the courses of a run up to a time.
use Rattle.std.specs.Prelude.{◌≡◌, ℕ, ◌+◌, ◌<◌, ◌≤◌, false, List, [], ◌∷◌, length, Option, Some, None}
use Rattle.cpa_units.specs.declared.bound.Bound.{Bound}
use Rattle.cpa_units.specs.declared.bound.Bound.TheVariants.{Within}
use Rattle.cpa_units.specs.declared.limits.TheConstants.{MAX_CHAIN}
use Rattle.cpa_units.specs.Bounds.{bound_of, sum_bounds}
use Rattle.cpa_events.specs.Events.{Model}
use Rattle.cpa_model.specs.declared.entries.Activator.TheVariants.{Source, Task}
use Rattle.cpa_model.specs.Streams.{source_stream}
use Rattle.cpa_model.specs.SystemLists.{SystemLists, source_at, task_at, may_fall_silent}
use Rattle.cpa_local.specs.Inputs.{input}
use Rattle.cpa_sound.specs.Course.{Course, Arrives, KeepsApart}
use Rattle.cpa_sound.specs.JobStreams.{Causes, stream_within}
use Rattle.cpa_sound.proofs.Parts.{of_stream, PartKeepsNear, EachStream, StreamsKeepApart}
use Rattle.cpa_sound.proofs.KeepsCauses.{Starts, started_by}

-- the arrivals of each stream of an input come no closer than it says; nothing is said of an unbounded input
abbrev pub InputKeepsApart : Course → (ℕ → ℕ) → Option Model → ℕ → Type 0
InputKeepsApart c stream (Some m) t = StreamsKeepApart c stream m t
InputKeepsApart c stream None t = Unit {0}

-- and no farther
abbrev pub InputKeepsNear : Course → (ℕ → ℕ) → Option Model → ℕ → Type 0
InputKeepsNear c stream (Some m) t = EachStream (λ q st. PartKeepsNear c (of_stream stream q) st t) 0 m
InputKeepsNear c stream None t = Unit {0}

-- what sources that aren't sporadic start comes no farther from each other than they say
abbrev pub SourcesAreNear : SystemLists → (ℕ → Course) → Causes → ℕ → Type 0
SourcesAreNear s course causes last =
    (i k : ℕ) → i < length s.tasks → Starts s i (Source (record { 0 = k })) → (source_at s k).sporadic ≡ false → PartKeepsNear (course i) (started_by causes i (Source (record { 0 = k }))) (source_stream s k) (last + 1)

-- each task of a list is among the activators of the next
abbrev pub IsChain : SystemLists → ℕ → List ℕ → Type 0
IsChain s i [] = i < length s.tasks
IsChain s i (j ∷ js) = (i < length s.tasks) × Starts s j (Task (record { 0 = i })) × IsChain s j js

-- the passage of job k of task i along a list of further tasks reaches a job that is complete at a time
abbrev pub Passes : (ℕ → Course) → Causes → ℕ → ℕ → List ℕ → ℕ → Type 0
Passes course causes i k [] due = k < (course i).ended due
Passes course causes i k (j ∷ js) due =
    (n : ℕ) × (n < (course j).arrived (due + 1)) × (causes j n ≡ record { by = Task (record { 0 = i }); number = k }) × Passes course causes j n js due

-- bounds hold in what comes up to and with a time
pub record CoursesHold (s : SystemLists) (x : List Bound) (course : ℕ → Course) (causes : Causes) (last : ℕ) : Type 0 where
  -- a job of a task with a number is complete by it
  pub in_time : (i r : ℕ) → i < length s.tasks → bound_of x i ≡ Within r → (k a : ℕ) → Arrives (course i) k a → a + r ≤ last → k < (course i).ended (a + r)
  -- and not before its task's least execution
  pub not_before : (i : ℕ) → i < length s.tasks → (k a t : ℕ) → Arrives (course i) k a → k < (course i).ended t → a + (task_at s i).best ≤ t
  -- where all tasks of a path have numbers, the passage of a job of its first task is complete within their sum
  pub paths : (i : ℕ) (js : List ℕ) (r : ℕ) → IsChain s i js → sum_bounds (bound_of x) (i ∷ js) ≡ Within r → (k a due : ℕ) → Arrives (course i) k a → a + r ≤ due → due ≤ last → Passes course causes i k js due
  -- the arrivals of a task with a bounded input keep apart
  pub apart : (i : ℕ) → i < length s.tasks → KeepsApart (course i) (input s x i) (last + 1)
  -- and those of each stream of it
  pub streams : (i : ℕ) → i < length s.tasks → InputKeepsApart (course i) (stream_within s causes MAX_CHAIN i) (input s x i) (last + 1)
  -- which keep near where the sources do, and none of them is sporadic
  pub near : SourcesAreNear s course causes last → (i : ℕ) → i < length s.tasks → may_fall_silent s i ≡ false → InputKeepsNear (course i) (stream_within s causes MAX_CHAIN i) (input s x i) (last + 1)
