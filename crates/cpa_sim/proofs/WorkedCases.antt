-- A run with regions, worked.
use Rattle.std.proofs.Common.{◌≡◌, ℕ, [], ◌∷◌, false, Some, None, refl}
use Rattle.cpa_units.specs.declared.limits.Size.TheVariants.{Large}
use Rattle.cpa_model.specs.declared.entries.Kind.TheVariants.{Preemptive}
use Rattle.cpa_model.specs.declared.entries.Source.{Source}
use Rattle.cpa_model.specs.declared.entries.Activator.TheVariants.{Source as FromSource}
use Rattle.cpa_model.specs.declared.entries.Turn.TheVariants.{Priority}
use Rattle.cpa_model.specs.declared.entries.Task.{Task}
use Rattle.cpa_model.specs.SystemLists.{SystemLists}
use Rattle.cpa_trace.specs.Trace.{TraceLists}
use Rattle.cpa_sched.specs.Steps.{step}
use Rattle.cpa_sim.specs.Run.{Progress, choice_at, runs_in, served, ends_in, ended_in, advance, run}

abbrev source : Source
source = record { name = []; period = 100; jitter = 0; distance = 0; sporadic = false; on_clock = None }

abbrev task : ℕ → ℕ → ℕ → ℕ → Task
task place best worst region =
    record { name = []; res = record { 0 = 0 }; after = FromSource (record { 0 = place }) ∷ []; best = best; worst = worst; turn = Priority place; region = region; locks = [] }

-- three tasks by urgency, of regions of 1, 2 and 4 ticks
three : SystemLists
three =
    record {
      size = Large;
      resources = record { name = []; kind = Preemptive; limit = 1000 } ∷ [];
      sources = source ∷ source ∷ source ∷ [];
      tasks = task 0 1 3 1 ∷ task 1 2 4 2 ∷ task 2 6 9 4 ∷ [];
      paths = [];
    }

-- the least urgent comes first
abbrev events : TraceLists
events = record { times = (2 ∷ []) ∷ (1 ∷ []) ∷ (0 ∷ []) ∷ []; executions = []; phases = [] }

abbrev done : ℕ → ℕ → ℕ → Progress
done source arrival end = record { arrival = arrival; left = 0; end = Some end; cause = record { by = FromSource (record { 0 = source }); number = 0 } }

-- its first region goes on for 4 ticks, and then the others run
most_urgent_waits : (run three events 16).jobs 0 ≡ done 0 2 7 ∷ []
unfolding run advance served ends_in ended_in runs_in choice_at step three
most_urgent_waits = refl

second_waits : (run three events 16).jobs 1 ≡ done 1 1 11 ∷ []
unfolding run advance served ends_in ended_in runs_in choice_at step three
second_waits = refl

last_ends : (run three events 16).jobs 2 ≡ done 2 0 16 ∷ []
unfolding run advance served ends_in ended_in runs_in choice_at step three
last_ends = refl
