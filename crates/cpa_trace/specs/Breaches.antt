-- The first breach of a trace that doesn't obey.
use Rattle.std.specs.Prelude.{◌<◌, ℕ, zero, suc, ◌+◌, ◌-◌, ◌%◌, min, max, Bool, true, false, not, ◌&&◌, ◌==◌, nat_lt, nat_le, List, length, slice_index_or, Option, Some, None, is_some, is_none, option_map, option_and_then, if◌then◌else◌}
use Rattle.std.specs.List.{list_any}
use Rattle.cpa_units.specs.Search.{least_from}
use Rattle.cpa_events.specs.declared.stream.Stream.{Stream}
use Rattle.cpa_events.specs.Streams.{stream_delta_minus}
use Rattle.cpa_model.specs.declared.entries.Kind.{Kind}
use Rattle.cpa_model.specs.declared.entries.Kind.TheVariants.{Tdma}
use Rattle.cpa_model.specs.declared.entries.Source.{Source}
use Rattle.cpa_model.specs.declared.entries.Task.{Task}
use Rattle.cpa_model.specs.Clocks.{clock_of, clock_cycle, offset_on}
use Rattle.cpa_model.specs.SystemLists.{SystemLists, resource_at, source_at, task_at, cycle_of}
use Rattle.cpa_model.specs.Streams.{source_stream}
use Rattle.cpa_trace.specs.Trace.{TraceLists, times_of, time_of, executions_of, phase_of}
use Rattle.cpa_trace.specs.declared.breach.Breach.{Breach}
use Rattle.cpa_trace.specs.declared.breach.Breach.TheVariants.{Close, Exec, Phase, Clock}

-- a number that was searched for, where it is below the count
abbrev pub if_below : ℕ → ℕ → Option ℕ
if_below count n = if nat_lt n count then Some n else None

-- the least number below a count that passes a test
abbrev pub first_below : (ℕ → Bool) → ℕ → Option ℕ
first_below passes count = if_below count (least_from passes 0 count)

-- whether event n comes too soon after an earlier event i: they are n - i + 1 events
abbrev pub is_too_soon : Stream → List ℕ → ℕ → ℕ → Bool
is_too_soon m times n i = nat_lt (slice_index_or times n 0) (slice_index_or times i 0 + stream_delta_minus m (n - i + 1))

-- the first event after which event n comes too soon
abbrev pub first_before : Stream → List ℕ → ℕ → Option ℕ
first_before m times n = first_below (is_too_soon m times n) n

-- the first event that comes too soon after an earlier one
abbrev pub first_too_soon : Stream → List ℕ → Option ℕ
first_too_soon m times = first_below (λ n. is_some (first_before m times n)) (length times)

-- the two times of the first breach of a source, where event n is the one that comes too soon
abbrev pub close_at : ℕ → List ℕ → Option ℕ → Option ℕ → Option Breach
close_at k times (Some n) (Some i) = Some (Close (record { 0 = k }) (slice_index_or times i 0) (slice_index_or times n 0))
close_at k times _ _ = None

abbrev pub close_by : ℕ → Stream → List ℕ → Option ℕ → Option Breach
close_by k m times None = None
close_by k m times (Some n) = close_at k times (Some n) (first_before m times n)

abbrev pub close_breach : SystemLists → TraceLists → ℕ → Option Breach
close_breach s tr k = close_by k (source_stream s k) (times_of tr k) (first_too_soon (source_stream s k) (times_of tr k))

-- whether a listed execution is out of its task's range
abbrev pub is_out_of_range : Task → List ℕ → ℕ → Bool
is_out_of_range t executions k = not (nat_le t.best (slice_index_or executions k 0) && nat_le (slice_index_or executions k 0) t.worst)

-- the first such job of a task; jobs are told from 1
abbrev pub execution_breach : SystemLists → TraceLists → ℕ → Option Breach
execution_breach s tr i = option_map (λ k. Exec (record { 0 = i }) (k + 1)) (first_below (is_out_of_range (task_at s i) (executions_of tr i)) (length (executions_of tr i)))

abbrev pub is_tdma : Kind → Bool
is_tdma (Tdma gap) = true
is_tdma _ = false

-- whether a task is on a resource
abbrev pub has_tasks : SystemLists → ℕ → Bool
has_tasks s r = list_any (λ (t : Task). t.res.0 == r) s.tasks

-- a TDMA resource that has a task, and whose phase isn't below its cycle
abbrev pub phase_breach : SystemLists → TraceLists → ℕ → Option Breach
phase_breach s tr r =
    if is_tdma (resource_at s r).kind && has_tasks s r && nat_le (cycle_of s r) (phase_of tr r) then Some (Phase (record { 0 = r })) else None

-- An event comes at the begin of its period, or later by up to the jitter, and periods begin one after the other: so the period
-- of event n begins no later than ..
abbrev pub latest_begin : ℕ → List ℕ → ℕ → ℕ
latest_begin period times zero = slice_index_or times 0 0
latest_begin period times (suc n) = min (latest_begin period times n + period) (slice_index_or times (suc n) 0)

-- .. and that event may come, as late as may be, no earlier than
abbrev pub earliest_end : ℕ → List ℕ → ℕ → ℕ
earliest_end period times zero = slice_index_or times 0 0
earliest_end period times (suc n) = max (earliest_end period times n + period) (slice_index_or times (suc n) 0)

-- how long before a moment a period of a source began, by a clock that had run for `lead` at time 0
abbrev pub past_begin : Source → ℕ → ℕ → ℕ
past_begin r lead moment = (moment + lead + (r.period - offset_on r.on_clock)) % r.period

-- whether the first events of a source, so many, come by a clock that had run for `lead` at time 0
abbrev pub fits_lead : Source → List ℕ → ℕ → ℕ → Bool
fits_lead r times lead zero = true
fits_lead r times lead (suc n) =
    nat_le (earliest_end r.period times n + past_begin r lead (latest_begin r.period times n)) (latest_begin r.period times n + r.jitter)

abbrev pub is_clock : Option ℕ → ℕ → Bool
is_clock None c = false
is_clock (Some clock) c = clock == c

-- whether a source is on clock c, and its first events don't come by it: of each source, so many as `counts` says
abbrev pub misses : SystemLists → TraceLists → (ℕ → ℕ) → ℕ → ℕ → ℕ → Bool
misses s tr counts c lead k = is_clock (clock_of s k) c && not (fits_lead (source_at s k) (times_of tr k) lead (counts k))

abbrev pub serves : SystemLists → TraceLists → (ℕ → ℕ) → ℕ → ℕ → Bool
serves s tr counts c lead = is_none (first_below (misses s tr counts c lead) (length s.sources))

-- whether clock c may have run for some time at time 0: whole cycles of it make no difference
abbrev pub leaves_lead : SystemLists → TraceLists → (ℕ → ℕ) → ℕ → Bool
leaves_lead s tr counts c = is_some (first_below (serves s tr counts c) (clock_cycle s c))

-- all events of the sources before k, and the first n of source k
abbrev pub events_to : TraceLists → ℕ → ℕ → ℕ → ℕ
events_to tr k n j = if nat_lt j k then length (times_of tr j) else if j == k then n else 0

abbrev pub clock_breach_on : SystemLists → TraceLists → ℕ → Option ℕ → Option Breach
clock_breach_on s tr k None = None
clock_breach_on s tr k (Some c) =
    option_map (λ n. Clock (record { 0 = k }) (time_of tr k n)) (first_below (λ n. not (leaves_lead s tr (events_to tr k (n + 1)) c)) (length (times_of tr k)))

-- the first event of a source, with which those of the sources before it on its clock can't come by one clock
abbrev pub clock_breach : SystemLists → TraceLists → ℕ → Option Breach
clock_breach s tr k = clock_breach_on s tr k (clock_of s k)

-- one thing, or else another
abbrev pub or_else : {X : Type 0} → Option X → Option X → Option X
or_else None other = other
or_else (Some x) other = Some x

-- what the first of so many places has that has something
abbrev pub first_some : {X : Type 0} → (ℕ → Option X) → ℕ → Option X
first_some has count = option_and_then has (first_below (λ k. is_some (has k)) count)

-- sources first, then tasks, then resources, each in their order, and then the sources on clocks
abbrev pub first_breach : SystemLists → TraceLists → Option Breach
first_breach s tr =
    or_else (first_some (close_breach s tr) (length s.sources))
    (or_else (first_some (execution_breach s tr) (length s.tasks))
    (or_else (first_some (phase_breach s tr) (length s.resources)) (first_some (clock_breach s tr) (length s.sources))))

-- the source, task or resource of a breach is there
abbrev pub IsBreachOf : SystemLists → Breach → Type 0
IsBreachOf s (Close k first second) = k.0 < length s.sources
IsBreachOf s (Exec i job) = i.0 < length s.tasks
IsBreachOf s (Phase r) = r.0 < length s.resources
IsBreachOf s (Clock k time) = k.0 < length s.sources
