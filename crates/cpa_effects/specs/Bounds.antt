-- Bounds on a chain of tasks, of which each takes what the one before wrote last: the time that passes from task to task is that of Davare
-- et al. ("Period Optimization for Hard Real-time Distributed Automotive Systems", 2007), with a tick less for each wait, since time is whole.
use Rattle.std.specs.Prelude.{ℕ, zero, suc, ◌+◌, ◌-◌, ◌==◌, min, Bool, true, false, not, ◌&&◌, if◌then◌else◌, List, [], ◌∷◌, length, fold, Option, Some, None, slice_index_or}
use Rattle.std.specs.List.{range_with_len}
use Rattle.cpa_units.specs.declared.bound.Bound.{Bound}
use Rattle.cpa_units.specs.declared.bound.Bound.TheVariants.{Within, Overload}
use Rattle.cpa_units.specs.declared.places.SourceId.{SourceId}
use Rattle.cpa_units.specs.declared.places.TaskId.{TaskId}
use Rattle.cpa_units.specs.Bounds.{bound_of, bound_plus, sum_bounds}
use Rattle.cpa_events.specs.declared.stream.Stream.{Stream}
use Rattle.cpa_events.specs.Streams.{stream_delta_plus}
use Rattle.cpa_events.specs.Events.{Model}
use Rattle.cpa_model.specs.declared.entries.Activator.{Activator}
use Rattle.cpa_model.specs.declared.entries.Activator.TheVariants.{Source, Task}
use Rattle.cpa_model.specs.declared.entries.Kind.{Kind}
use Rattle.cpa_model.specs.declared.entries.Kind.TheVariants.{Preemptive, RoundRobin, Tdma, Can, Fifo, Ceiling}
use Rattle.cpa_model.specs.SystemLists.{SystemLists, task_at, resource_of, is_higher, is_activated_by, may_fall_silent}
use Rattle.cpa_local.specs.Inputs.{input}
use Rattle.cpa_effects.specs.declared.steps.Step.{Step}
use Rattle.cpa_effects.specs.declared.steps.Step.TheVariants.{Register, Merge, Activation}
use Rattle.cpa_effects.specs.declared.steps.Reading.{Reading}
use Rattle.cpa_effects.specs.declared.steps.Reading.TheVariants.{Anywhere, WhileRunning}
use Rattle.cpa_effects.specs.declared.steps.Passage.{Passage}
use Rattle.cpa_effects.specs.declared.steps.Passage.TheVariants.{By, FromAbove, OfOneSource}

-- how what task j wrote comes to task i
abbrev pub step_between : SystemLists → ℕ → ℕ → Step
step_between s j i = if is_activated_by s j i then (if length (task_at s i).after == 1 then Activation else Merge) else Register

abbrev pub is_preemptive : Kind → Bool
is_preemptive Preemptive = true
is_preemptive RoundRobin = false
is_preemptive (Tdma gap) = false
is_preemptive (Can bit) = false
is_preemptive Fifo = false
is_preemptive Ceiling = false

-- whether a job of task i may be preempted at each tick
abbrev pub gives_way : SystemLists → ℕ → Bool
gives_way s i = is_preemptive (resource_of s i).kind && (task_at s i).region == 1

-- whether task j is on the resource of task i, which gives way to it, of higher priority, and starts none of its jobs
abbrev pub is_above : SystemLists → ℕ → ℕ → Bool
is_above s j i = (gives_way s i && is_higher s i j) && not (is_activated_by s j i)

-- the source that is a task's only activator
abbrev pub sole_source : List Activator → Option SourceId
sole_source [] = None
sole_source (Source k ∷ []) = Some k
sole_source (Task j ∷ []) = None
sole_source (a ∷ b ∷ more) = None

abbrev pub is_one_source : Option SourceId → Option SourceId → Bool
is_one_source (Some k) (Some m) = k.0 == m.0
is_one_source (Some k) None = false
is_one_source None other = false

-- whether one source alone starts the jobs of both tasks
abbrev pub have_one_source : SystemLists → ℕ → ℕ → Bool
have_one_source s j i = is_one_source (sole_source (task_at s j).after) (sole_source (task_at s i).after)

-- how data passes from task j to task i: what task j wrote before a tick in which task i runs is of its last job that has arrived by then,
-- where task j is above it; and where one source starts both, of the job that arrived with that of task i, or a later one
abbrev pub passage_between : Reading → SystemLists → ℕ → ℕ → Passage
passage_between Anywhere s j i = By (step_between s j i)
passage_between WhileRunning s j i =
    if is_above s j i then (if have_one_source s j i then OfOneSource else FromAbove) else By (step_between s j i)

-- the greatest time from one event of a stream to the next
abbrev pub next_of : Stream → ℕ
next_of st = stream_delta_plus st 2

-- the least of that time so far and a stream's
abbrev pub sooner : ℕ → Stream → ℕ
sooner least st = min least (next_of st)

-- the greatest time from one event to the next, of whichever stream it is: that of the stream in which it is least
abbrev pub next_event : Model → ℕ
next_event [] = 0
next_event (st ∷ m) = fold sooner (next_of st) m

-- how long a moment that an event has just missed can come before the next event
abbrev pub wait_in : Option Model → Bound
wait_in (Some m) = Within (next_event m - 1)
wait_in None = Overload

-- and before the next job of a task; where a source that may fall silent starts some, nothing bounds it
unfoldable pub wait_of : SystemLists → List Bound → ℕ → Bound
wait_of s x i = if may_fall_silent s i then Overload else wait_in (input s x i)

-- the wait for a job that reads: none where the end of the job before starts one
abbrev pub reading_wait : Step → Bound → Bound
reading_wait Register wait = wait
reading_wait Merge wait = Within 0
reading_wait Activation wait = Within 0

-- what a job that reads has is of a job that came so long ago, or whose next came so; it is the first where the one started the other
abbrev pub read_from : Step → Bound → Bound → Bound
read_from Register old renewed = renewed
read_from Merge old renewed = renewed
read_from Activation old renewed = old

-- a task of a chain, by its place
abbrev pub task_in : List TaskId → ℕ → TaskId
task_in tasks k = slice_index_or tasks k (record { 0 = 0 })

-- the passage to the task in place k + 1
abbrev pub passage_in : Reading → SystemLists → List TaskId → ℕ → Passage
passage_in reading s tasks k = passage_between reading s (task_in tasks k).0 (task_in tasks (k + 1)).0

-- the writer's response and the reader's wait; where the writer is above, its job has ended whenever the reader runs, and the wait is all;
-- and where one source starts both, the job that arrived with it has
abbrev pub forward_cost : Passage → Bound → Bound → Bound
forward_cost (By step) response wait = bound_plus response (reading_wait step wait)
forward_cost FromAbove response wait = wait
forward_cost OfOneSource response wait = Within 0

-- how long after some time a job comes that has what the writer wrote, where the writer's job comes so long after it, and its next one so:
-- the writer's response after one of both; from above its response is left out; and where one source starts both they come together
abbrev pub backward_cost : Passage → Bound → Bound → Bound → Bound
backward_cost (By step) response old renewed = bound_plus (read_from step old renewed) response
backward_cost FromAbove response old renewed = renewed
backward_cost OfOneSource response old renewed = old

-- how long it takes from a job of the task in place k to one of the next that has read what it wrote, both as they arrive
abbrev pub forward : Reading → SystemLists → List Bound → List TaskId → ℕ → Bound
forward reading s x tasks k = forward_cost (passage_in reading s tasks k) (bound_of x (task_in tasks k).0) (wait_of s x (task_in tasks (k + 1)).0)

-- of jobs along a chain, of which each has the data of the one before: how long after the first of them comes at most, less a tick, what
-- overwrites that of the task in place k, as a job of it that comes anew
abbrev pub renewed_after : Reading → SystemLists → List Bound → List TaskId → ℕ → Bound
renewed_after reading s x tasks k = bound_plus (wait_of s x (task_in tasks 0).0) (sum_bounds (forward reading s x tasks) (range_with_len 0 k))

-- and how long after the first the one in place k comes at most
unfoldable pub arrives_after : Reading → SystemLists → List Bound → List TaskId → ℕ → Bound
arrives_after reading s x tasks zero = Within 0
arrives_after reading s x tasks (suc k) =
    backward_cost (passage_in reading s tasks k) (bound_of x (task_in tasks k).0) (arrives_after reading s x tasks k) (renewed_after reading s x tasks k)

-- the task in the last place
abbrev pub last_in : List TaskId → TaskId
last_in tasks = task_in tasks (length tasks - 1)

-- all steps, and the response of the last task
abbrev pub through : (ℕ → Bound) → List Bound → List TaskId → Bound
through step x tasks = bound_plus (sum_bounds step (range_with_len 0 (length tasks - 1))) (bound_of x (last_in tasks).0)

-- from a job of the first task to the end of the first job of the last that knows of it
unfoldable pub latency_by : Reading → SystemLists → List Bound → List TaskId → Bound
latency_by reading s x tasks = through (forward reading s x tasks) x tasks

-- from an event that the first task has just missed
unfoldable pub reaction_by : Reading → SystemLists → List Bound → List TaskId → Bound
reaction_by reading s x tasks = bound_plus (wait_of s x (task_in tasks 0).0) (latency_by reading s x tasks)

-- how old the data of a job of the last task is at its end: the reduced data age of Günzel et al. ("On the Equivalence of Maximum Reaction
-- Time and Maximum Data Age for Cause-Effect Chains", 2023), whose reaction time is the bound above
unfoldable pub age_by : Reading → SystemLists → List Bound → List TaskId → Bound
age_by reading s x tasks = bound_plus (arrives_after reading s x tasks (length tasks - 1)) (bound_of x (last_in tasks).0)

-- how old the data in the register of the last task is until it is overwritten: the data age of Günzel et al.
unfoldable pub held_by : Reading → SystemLists → List Bound → List TaskId → Bound
held_by reading s x tasks = bound_plus (renewed_after reading s x tasks (length tasks - 1)) (bound_of x (last_in tasks).0)

-- and whenever jobs read
abbrev pub latency_of : SystemLists → List Bound → List TaskId → Bound
latency_of s x tasks = latency_by Anywhere s x tasks

abbrev pub reaction_of : SystemLists → List Bound → List TaskId → Bound
reaction_of s x tasks = reaction_by Anywhere s x tasks

abbrev pub age_of : SystemLists → List Bound → List TaskId → Bound
age_of s x tasks = age_by Anywhere s x tasks

abbrev pub held_of : SystemLists → List Bound → List TaskId → Bound
held_of s x tasks = held_by Anywhere s x tasks
