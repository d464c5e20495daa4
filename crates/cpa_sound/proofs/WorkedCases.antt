-- Worked runs, and a bound that is one too small and doesn't hold.
use Rattle.std.proofs.Common.{◌≡◌, ℕ, zero, suc, ◌+◌, ◌<◌, ◌≤◌, length, map, get_or, List, [], ◌∷◌, false, Some, None, refl, sym, ◌∙◌, ap, arith}
use Rattle.cpa_units.specs.declared.bound.Bound.TheVariants.{Within}
use Rattle.cpa_units.specs.declared.limits.Size.TheVariants.{Small, Large}
use Rattle.cpa_units.specs.Search.{least_from, greatest_to}
use Rattle.cpa_events.specs.declared.stream.Stream.{Stream}
use Rattle.cpa_events.specs.Streams.{stream_delta_minus, stream_eta_plus}
use Rattle.cpa_events.specs.Events.{delta_minus, eta_plus}
use Rattle.cpa_events.proofs.StreamLaws.{stream_delta_minus-one}
use Rattle.cpa_window.specs.Windows.{window}
use Rattle.cpa_window.specs.BusyWindow.{jobs_in_busy_window, busy_window_bound}
use Rattle.cpa_model.specs.declared.entries.Kind.{Kind}
use Rattle.cpa_model.specs.declared.entries.Kind.TheVariants.{Preemptive, RoundRobin, Tdma, Can, Fifo}
use Rattle.cpa_model.specs.declared.entries.Resource.{Resource}
use Rattle.cpa_model.specs.declared.entries.Source.{Source}
use Rattle.cpa_model.specs.declared.entries.Activator.{Activator}
use Rattle.cpa_model.specs.declared.entries.Activator.TheVariants.{Source as FromSource, Task as FromTask}
use Rattle.cpa_model.specs.declared.entries.Turn.{Turn}
use Rattle.cpa_model.specs.declared.entries.Turn.TheVariants.{Priority, Slot, Queued}
use Rattle.cpa_model.specs.declared.entries.Task.{Task}
use Rattle.cpa_model.specs.Clocks.{clock_of}
use Rattle.cpa_phase.specs.Clocks.{most_of}
use Rattle.cpa_local.specs.OnClocks.{anchors_within}
use Rattle.cpa_model.specs.SystemLists.{SystemLists, task_at, resource_of, cycle_of}
use Rattle.cpa_local.specs.Inputs.{input}
use Rattle.cpa_local.specs.Local.{response, responses}
use Rattle.cpa_model.specs.Streams.{source_stream}
use Rattle.cpa_trace.specs.Trace.{TraceLists, times_of, time_of, phase_of, Obeys}
use Rattle.cpa_sched.specs.Steps.{step}
use Rattle.cpa_sim.specs.Run.{no_job, Progress, choice_at, runs_in, served, ends_in, ended_in, advance, run}
use Rattle.cpa_model.specs.Chains.{streams_within}
use Rattle.cpa_sound.specs.JobStreams.{stream_within}
use Rattle.cpa_sound.specs.BoundsHold.{job_at, HasJob, stream_of, BoundsHold}

abbrev resource : Kind → Resource
resource kind = record { name = []; kind = kind; limit = 1000000 }

abbrev source : ℕ → Source
source period = record { name = []; period = period; jitter = 0; distance = 0; sporadic = false; on_clock = None }

abbrev from_source : ℕ → Activator
from_source k = FromSource (record { 0 = k })

abbrev from_task : ℕ → Activator
from_task j = FromTask (record { 0 = j })

abbrev task : ℕ → List Activator → ℕ → ℕ → Turn → Task
task place after best worst turn = record { name = []; res = record { 0 = place }; after = after; best = best; worst = worst; turn = turn; region = 1; locks = [] }

abbrev system : List Kind → List ℕ → List Task → SystemLists
system kinds periods tasks = record { size = Small; resources = map resource kinds; sources = map source periods; tasks = tasks; paths = [] }

-- the same events from two sources
abbrev both_at : List ℕ → TraceLists
both_at times = record { times = times ∷ times ∷ []; executions = []; phases = [] }

-- a job that arrived and ended at these times, by what started it
abbrev done : Activator → ℕ → ℕ → ℕ → Progress
done by number arrival end = record { arrival = arrival; left = 0; end = Some end; cause = record { by = by; number = number } }

-- ---- runs

round_robin : SystemLists
round_robin = system (RoundRobin ∷ []) (20 ∷ 20 ∷ []) (task 0 (from_source 0 ∷ []) 3 3 (Slot 2) ∷ task 0 (from_source 1 ∷ []) 1 1 (Slot 4) ∷ [])

two_in_a_ring : (run round_robin (both_at (0 ∷ [])) 4).jobs 0 ≡ done (from_source 0) 0 0 4 ∷ []
unfolding run advance served ends_in ended_in runs_in choice_at step round_robin
two_in_a_ring = refl

-- a holder that was idle has slot left
idle_holder : (run round_robin (both_at (0 ∷ 20 ∷ [])) 24).jobs 0 ≡ done (from_source 0) 0 0 4 ∷ done (from_source 0) 1 20 24 ∷ []
unfolding run advance served ends_in ended_in runs_in choice_at step round_robin
idle_holder = refl

idle_holder-other : (run round_robin (both_at (0 ∷ 20 ∷ [])) 24).jobs 1 ≡ done (from_source 1) 0 0 3 ∷ done (from_source 1) 1 20 22 ∷ []
unfolding run advance served ends_in ended_in runs_in choice_at step round_robin
idle_holder-other = refl

tdma : SystemLists
tdma = system (Tdma 8 ∷ []) (40 ∷ []) (task 0 (from_source 0 ∷ []) 3 3 (Slot 2) ∷ [])

in_a_slot : (run tdma (record { times = (2 ∷ []) ∷ []; executions = (3 ∷ []) ∷ []; phases = 0 ∷ [] }) 21).jobs 0 ≡ done (from_source 0) 0 2 21 ∷ []
unfolding run advance served ends_in ended_in runs_in choice_at step tdma
in_a_slot = refl

chains : SystemLists
chains =
    system (Preemptive ∷ Can 1 ∷ []) (100 ∷ 100 ∷ [])
    (task 0 (from_source 0 ∷ []) 1 3 (Priority 2) ∷ task 1 (from_task 0 ∷ []) 1 2 (Priority 1) ∷ task 1 (from_source 1 ∷ []) 2 4 (Priority 2) ∷ task 0 (from_task 2 ∷ []) 1 2 (Priority 1) ∷ [])

-- a frame that has started goes on while one of higher priority waits
crossing : (run chains (both_at (0 ∷ [])) 8).jobs 1 ≡ done (from_task 0) 0 3 6 ∷ []
unfolding run advance served ends_in ended_in runs_in choice_at step chains
crossing = refl

crossing-other : (run chains (both_at (0 ∷ [])) 8).jobs 3 ≡ done (from_task 2) 0 4 6 ∷ []
unfolding run advance served ends_in ended_in runs_in choice_at step chains
crossing-other = refl

-- ---- a queue

abbrev queues : List Kind → List ℕ → List Task → SystemLists
queues kinds periods tasks = record { size = Large; resources = map resource kinds; sources = map source periods; tasks = tasks; paths = [] }

queue : SystemLists
queue = queues (Fifo ∷ []) (10 ∷ 20 ∷ []) (task 0 (from_source 0 ∷ []) 1 3 Queued ∷ task 0 (from_source 1 ∷ []) 2 7 Queued ∷ [])

-- a job that came a tick earlier is served first
first_come : (run queue (record { times = (1 ∷ []) ∷ (0 ∷ []) ∷ []; executions = []; phases = [] }) 10).jobs 0 ≡ done (from_source 0) 0 1 10 ∷ []
unfolding run advance served ends_in ended_in runs_in choice_at step queue
first_come = refl

-- of two that came at once that of the first task, so that the other takes 10 ticks
come_at_once : (run queue (both_at (0 ∷ [])) 10).jobs 1 ≡ done (from_source 1) 0 0 10 ∷ []
unfolding run advance served ends_in ended_in runs_in choice_at step queue
come_at_once = refl

-- and 10 are the bounds of both
queue_closed : responses queue (Within 10 ∷ Within 10 ∷ []) ≡ Within 10 ∷ Within 10 ∷ []
unfolding queue input response window stream_eta_plus eta_plus stream_delta_minus delta_minus least_from greatest_to
queue_closed = refl

-- two queues that send on to each other, so that the bounds of each depend on those of the other
crossing_queues : SystemLists
crossing_queues =
    queues (Fifo ∷ Fifo ∷ []) (20 ∷ 20 ∷ [])
    (task 0 (from_source 0 ∷ []) 1 3 Queued ∷ task 1 (from_task 0 ∷ []) 1 2 Queued ∷ task 1 (from_source 1 ∷ []) 2 4 Queued ∷ task 0 (from_task 2 ∷ []) 1 2 Queued ∷ [])

crossing_queues-closed : responses crossing_queues (Within 5 ∷ Within 6 ∷ Within 6 ∷ Within 5 ∷ []) ≡ Within 5 ∷ Within 6 ∷ Within 6 ∷ Within 5 ∷ []
unfolding crossing_queues input response window stream_eta_plus eta_plus stream_delta_minus delta_minus least_from greatest_to
crossing_queues-closed = refl

-- ---- several activators

-- two sources start a task, which starts another
joining : SystemLists
joining =
    system (Preemptive ∷ Preemptive ∷ []) (10 ∷ 20 ∷ [])
    (task 0 (from_source 0 ∷ from_source 1 ∷ []) 1 3 (Priority 1) ∷ task 1 (from_task 0 ∷ []) 2 2 (Priority 1) ∷ [])

both_start : (run joining (both_at (0 ∷ [])) 8).jobs 0 ≡ done (from_source 0) 0 0 3 ∷ done (from_source 1) 0 0 6 ∷ []
unfolding run advance served ends_in ended_in runs_in choice_at step joining
both_start = refl

both_pass : (run joining (both_at (0 ∷ [])) 8).jobs 1 ≡ done (from_task 0) 0 3 5 ∷ done (from_task 0) 1 6 8 ∷ []
unfolding run advance served ends_in ended_in runs_in choice_at step joining
both_pass = refl

-- the second job of the second task came from the second source
second_stream : stream_of joining (both_at (0 ∷ [])) 8 1 1 ≡ 1
unfolding run advance served ends_in ended_in runs_in choice_at step stream_within streams_within joining
second_stream = refl

-- what the second task is sent has the streams of both sources, and these are the least bounds
both_sent : input joining (Within 6 ∷ Within 4 ∷ []) 1 ≡ Some (record { period = 10; jitter = 5; distance = 1 } ∷ record { period = 20; jitter = 5; distance = 1 } ∷ [])
unfolding joining input
both_sent = refl

both_closed : responses joining (Within 6 ∷ Within 4 ∷ []) ≡ Within 6 ∷ Within 4 ∷ []
unfolding joining input response anchors_within most_of busy_window_bound jobs_in_busy_window window stream_eta_plus eta_plus stream_delta_minus delta_minus least_from greatest_to
both_closed = refl

-- 5 ticks don't bound the first task
both_at_5 : (run joining (both_at (0 ∷ [])) 5).jobs 0 ≡ done (from_source 0) 0 0 3 ∷ record { arrival = 0; left = 1; end = None; cause = record { by = from_source 1; number = 0 } } ∷ []
unfolding run advance served ends_in ended_in runs_in choice_at step joining
both_at_5 = refl

-- one source starts two tasks, each of which starts a third
meeting : SystemLists
meeting =
    system (Preemptive ∷ []) (100 ∷ [])
    (task 0 (from_source 0 ∷ []) 1 1 (Priority 1) ∷ task 0 (from_source 0 ∷ []) 1 1 (Priority 2) ∷ task 0 (from_task 1 ∷ from_task 0 ∷ []) 1 1 (Priority 3) ∷ [])

both_meet : (run meeting (record { times = (0 ∷ []) ∷ []; executions = []; phases = [] }) 4).jobs 2 ≡ done (from_task 0) 0 1 3 ∷ done (from_task 1) 0 2 4 ∷ []
unfolding run advance served ends_in ended_in runs_in choice_at step meeting
both_meet = refl

-- whichever came first, its stream stands where its activator does
first_is_second : stream_of meeting (record { times = (0 ∷ []) ∷ []; executions = []; phases = [] }) 4 2 0 ≡ 1
unfolding run advance served ends_in ended_in runs_in choice_at step stream_within streams_within meeting
first_is_second = refl

-- ---- 10 ticks bound the second of two tasks, and 9 don't

two_tasks : SystemLists
two_tasks = system (Preemptive ∷ []) (10 ∷ 20 ∷ []) (task 0 (from_source 0 ∷ []) 1 3 (Priority 1) ∷ task 0 (from_source 1 ∷ []) 2 7 (Priority 2) ∷ [])

ten_is_closed : responses two_tasks (Within 3 ∷ Within 10 ∷ []) ≡ Within 3 ∷ Within 10 ∷ []
unfolding two_tasks input response anchors_within most_of busy_window_bound jobs_in_busy_window window stream_eta_plus eta_plus stream_delta_minus delta_minus least_from greatest_to
ten_is_closed = refl

at_9 : (run two_tasks (both_at (0 ∷ [])) 9).jobs 1 ≡ record { arrival = 0; left = 1; end = None; cause = record { by = from_source 1; number = 0 } } ∷ []
unfolding run advance served ends_in ended_in runs_in choice_at step two_tasks
at_9 = refl

at_10 : (run two_tasks (both_at (0 ∷ [])) 10).jobs 1 ≡ done (from_source 1) 0 0 10 ∷ []
unfolding run advance served ends_in ended_in runs_in choice_at step two_tasks
at_10 = refl

one_event : (m : Stream) (n gap : ℕ) → n + gap < 1 → get_or (0 ∷ []) n 0 + stream_delta_minus m (gap + 1) ≤ get_or (0 ∷ []) (n + gap) 0
one_event m n gap h =
    let none : n ≡ 0 = omega arith in
    let no_gap : gap ≡ 0 = omega arith in
    let one : 0 + 1 ≡ 1 = omega arith in
    let first : 0 + stream_delta_minus m (0 + 1) ≤ 0 = rw one (omega (arith, stream_delta_minus-one m)) in
    let zero_sum : 0 + 0 ≡ 0 = omega arith in
    rw (none, no_gap, zero_sum) first

both_obey : Obeys two_tasks (both_at (0 ∷ []))
unfolding two_tasks
both_obey = record { apart = apart; least = λ i k h past. absurd (omega arith); greatest = λ i k h past. absurd (omega arith); phase = phase; clocks = λ c h. record { lead = 0; before = λ k. 0; not_early = λ k n on has. absurd (no_clock k c on); not_late = λ k n on has. absurd (no_clock k c on) } }
  where
    apart : (k n gap : ℕ) → n + gap < length (times_of (both_at (0 ∷ [])) k) → time_of (both_at (0 ∷ [])) k n + stream_delta_minus (source_stream two_tasks k) (gap + 1) ≤ time_of (both_at (0 ∷ [])) k (n + gap)
    apart zero n gap h = one_event (source_stream two_tasks 0) n gap h
    apart (suc zero) n gap h = one_event (source_stream two_tasks 1) n gap h
    apart (suc (suc k)) n gap h = absurd (omega arith)

    phase : (i gap : ℕ) → i < 2 → (resource_of two_tasks i).kind ≡ Tdma gap → phase_of (both_at (0 ∷ [])) (task_at two_tasks i).res.0 < cycle_of two_tasks (task_at two_tasks i).res.0
    phase zero gap h e = cc
    phase (suc zero) gap h e = cc
    phase (suc (suc i)) gap h e = absurd (omega arith)

    no_clock : (k c : ℕ) → clock_of two_tasks k ≡ Some c → ⊥
    no_clock zero c on = cc
    no_clock (suc zero) c on = cc
    no_clock (suc (suc k)) c on = cc

nine_is_too_few : ¬ BoundsHold two_tasks (Within 3 ∷ Within 9 ∷ [])
nine_is_too_few holds =
    let job : job_at two_tasks (both_at (0 ∷ [])) 9 1 0 ≡ record { arrival = 0; left = 1; end = None; cause = record { by = from_source 1; number = 0 } } = ap (λ js. get_or js 0 no_job) at_9 in
    let has : HasJob two_tasks (both_at (0 ∷ [])) 9 1 0 = rw at_9 (omega arith) in
    let arrived = ap (λ (j : Progress). j.arrival) job in
    let done = (holds (both_at (0 ∷ [])) both_obey).in_time 1 9 0 9 (unfold two_tasks in omega arith) refl has (omega (arith, arrived)) in
    let still = sym (ap (λ (j : Progress). j.end) job) ∙ done.is in
    cc
