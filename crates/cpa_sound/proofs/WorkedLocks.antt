-- A worked run under immediate priority ceilings: a lock is held, and the bound with its blocking is reached.
use Rattle.std.proofs.Common.{◌≡◌, ℕ, zero, suc, ◌+◌, ◌<◌, ◌≤◌, length, get_or, [], ◌∷◌, Some, None, false, refl, sym, ◌∙◌, ap, arith}
use Rattle.cpa_units.specs.declared.bound.Bound.TheVariants.{Within}
use Rattle.cpa_units.specs.declared.limits.Size.TheVariants.{Large}
use Rattle.cpa_units.specs.Search.{least_from, greatest_to}
use Rattle.cpa_events.specs.declared.stream.Stream.{Stream}
use Rattle.cpa_events.specs.Streams.{stream_delta_minus, stream_eta_plus}
use Rattle.cpa_events.specs.Events.{delta_minus, eta_plus}
use Rattle.cpa_events.proofs.StreamLaws.{stream_delta_minus-one}
use Rattle.cpa_window.specs.Windows.{window}
use Rattle.cpa_window.specs.BusyWindow.{jobs_in_busy_window, busy_window_bound}
use Rattle.cpa_phase.specs.Clocks.{most_of}
use Rattle.cpa_model.specs.declared.entries.Kind.TheVariants.{Tdma, Ceiling}
use Rattle.cpa_model.specs.declared.entries.Resource.{Resource}
use Rattle.cpa_model.specs.declared.entries.Source.{Source}
use Rattle.cpa_model.specs.declared.entries.Activator.TheVariants.{Source as FromSource}
use Rattle.cpa_model.specs.declared.entries.Turn.TheVariants.{Priority}
use Rattle.cpa_model.specs.declared.entries.Task.{Task}
use Rattle.cpa_model.specs.declared.locks.CriticalSection.{CriticalSection}
use Rattle.cpa_model.specs.Clocks.{clock_of}
use Rattle.cpa_model.specs.Streams.{source_stream}
use Rattle.cpa_model.specs.SystemLists.{SystemLists, task_at, resource_of, cycle_of}
use Rattle.cpa_local.specs.Inputs.{input}
use Rattle.cpa_local.specs.OnClocks.{anchors_within}
use Rattle.cpa_local.specs.Local.{response, responses}
use Rattle.cpa_trace.specs.Trace.{TraceLists, times_of, time_of, phase_of, Obeys}
use Rattle.cpa_sched.specs.Steps.{step}
use Rattle.cpa_sim.specs.Run.{no_job, Progress, choice_at, runs_in, served, ends_in, ended_in, advance, run}
use Rattle.cpa_sound.specs.BoundsHold.{job_at, HasJob, BoundsHold}
use Rattle.cpa_sound.specs.Locks.{HoldsLock}

abbrev processor : Resource
processor = record { name = []; kind = Ceiling; limit = 1000 }

abbrev source : ℕ → Source
source period = record { name = []; period = period; jitter = 0; distance = 0; sporadic = false; on_clock = None }

abbrev bus : ℕ → ℕ → CriticalSection
bus start ticks = record { lock = 98 ∷ []; start = start; length = ticks }

abbrev task : ℕ → ℕ → ℕ → CriticalSection → Task
task place worst priority section =
    record { name = []; res = record { 0 = 0 }; after = FromSource (record { 0 = place }) ∷ []; best = 1; worst = worst; turn = Priority priority; region = 1; locks = section ∷ [] }

-- the first task takes 3 ticks and the lock for 2 of them, the second 8 and the lock for 6 after the first
locked : SystemLists
locked = record { size = Large; resources = processor ∷ []; sources = source 20 ∷ source 40 ∷ []; tasks = task 0 3 1 (bus 0 2) ∷ task 1 8 2 (bus 1 6) ∷ []; paths = [] }

-- the first comes when the second has had a tick of its section
abbrev then_first : TraceLists
then_first = record { times = (2 ∷ []) ∷ (0 ∷ []) ∷ []; executions = []; phases = [] }

-- at time 4 the second holds the lock
second_holds : HoldsLock locked then_first 4 (98 ∷ []) 1
unfolding run advance served ends_in ended_in runs_in choice_at step locked
second_holds = record { pending = refl; within = refl }

-- 5 ticks of the section are left, and the first runs after them
first_waits : (run locked then_first 10).jobs 0 ≡ record { arrival = 2; left = 0; end = Some 10; cause = record { by = FromSource (record { 0 = 0 }); number = 0 } } ∷ []
unfolding run advance served ends_in ended_in runs_in choice_at step locked
first_waits = refl

-- 8 and 11 are their bounds
eight_is_closed : responses locked (Within 8 ∷ Within 11 ∷ []) ≡ Within 8 ∷ Within 11 ∷ []
unfolding locked input response anchors_within most_of busy_window_bound jobs_in_busy_window window stream_eta_plus eta_plus stream_delta_minus delta_minus least_from greatest_to
eight_is_closed = refl

-- and 7 doesn't bound the first
at_9 : (run locked then_first 9).jobs 0 ≡ record { arrival = 2; left = 1; end = None; cause = record { by = FromSource (record { 0 = 0 }); number = 0 } } ∷ []
unfolding run advance served ends_in ended_in runs_in choice_at step locked
at_9 = refl

one_event : (m : Stream) (a n gap : ℕ) → n + gap < 1 → get_or (a ∷ []) n 0 + stream_delta_minus m (gap + 1) ≤ get_or (a ∷ []) (n + gap) 0
one_event m a zero zero h = omega (arith, stream_delta_minus-one m)
one_event m a zero (suc gap) h = absurd (omega (arith, h))
one_event m a (suc n) gap h = absurd (omega (arith, h))

then_first_obeys : Obeys locked then_first
unfolding locked
then_first_obeys =
    record {
      apart = apart;
      least = λ i k h past. absurd (omega arith);
      greatest = λ i k h past. absurd (omega arith);
      phase = phase;
      clocks = λ c h. record { lead = 0; before = λ k. 0; not_early = λ k n on has. absurd (no_clock k c on); not_late = λ k n on has. absurd (no_clock k c on) };
    }
  where
    apart : (k n gap : ℕ) → n + gap < length (times_of then_first k) → time_of then_first k n + stream_delta_minus (source_stream locked k) (gap + 1) ≤ time_of then_first k (n + gap)
    apart zero n gap h = one_event (source_stream locked 0) 2 n gap h
    apart (suc zero) n gap h = one_event (source_stream locked 1) 0 n gap h
    apart (suc (suc k)) n gap h = absurd (omega arith)

    phase : (i gap : ℕ) → i < 2 → (resource_of locked i).kind ≡ Tdma gap → phase_of then_first (task_at locked i).res.0 < cycle_of locked (task_at locked i).res.0
    phase zero gap h e = cc
    phase (suc zero) gap h e = cc
    phase (suc (suc i)) gap h e = absurd (omega arith)

    no_clock : (k c : ℕ) → clock_of locked k ≡ Some c → ⊥
    no_clock zero c on = cc
    no_clock (suc zero) c on = cc
    no_clock (suc (suc k)) c on = cc

seven_is_too_few : ¬ BoundsHold locked (Within 7 ∷ Within 11 ∷ [])
seven_is_too_few holds =
    let job : job_at locked then_first 9 0 0 ≡ record { arrival = 2; left = 1; end = None; cause = record { by = FromSource (record { 0 = 0 }); number = 0 } } = ap (λ js. get_or js 0 no_job) at_9 in
    let has : HasJob locked then_first 9 0 0 = rw at_9 (omega arith) in
    let arrived = ap (λ (j : Progress). j.arrival) job in
    let done = (holds then_first then_first_obeys).in_time 0 7 0 9 (unfold locked in omega arith) refl has (omega (arith, arrived)) in
    let still = sym (ap (λ (j : Progress). j.end) job) ∙ done.is in
    cc
