-- A worked system on a clock: a closed vector that is lower than without it.
use Rattle.std.proofs.Common.{◌≡◌, ℕ, map, List, [], ◌∷◌, Option, Some, None, false, refl, sym, subst}
use Rattle.cpa_units.specs.declared.bound.Bound.{Bound}
use Rattle.cpa_units.specs.declared.bound.Bound.TheVariants.{Within}
use Rattle.cpa_units.specs.declared.limits.Size.TheVariants.{Large}
use Rattle.cpa_units.specs.Search.{least_from, greatest_to}
use Rattle.cpa_units.specs.Bounds.{IsNowhereAbove}
use Rattle.cpa_units.proofs.BoundLaws.{IsNowhereAbove_refl}
use Rattle.cpa_events.specs.Streams.{stream_delta_minus, stream_eta_plus}
use Rattle.cpa_events.specs.Events.{delta_minus, eta_plus}
use Rattle.cpa_window.specs.Windows.{window}
use Rattle.cpa_window.specs.BusyWindow.{jobs_in_busy_window, busy_window_bound}
use Rattle.cpa_phase.specs.Phases.{earliest_arrival, arrivals}
use Rattle.cpa_phase.specs.Clocks.{most_of}
use Rattle.cpa_offset.specs.Offsets.{window_bound, offset_bound}
use Rattle.cpa_model.specs.declared.entries.Kind.TheVariants.{Preemptive}
use Rattle.cpa_model.specs.declared.entries.Resource.{Resource}
use Rattle.cpa_model.specs.declared.entries.OnClock.{OnClock}
use Rattle.cpa_model.specs.declared.entries.Source.{Source}
use Rattle.cpa_model.specs.declared.entries.Activator.{Activator}
use Rattle.cpa_model.specs.declared.entries.Activator.TheVariants.{Source as FromSource, Task as FromTask}
use Rattle.cpa_model.specs.declared.entries.Turn.TheVariants.{Priority}
use Rattle.cpa_model.specs.declared.entries.Task.{Task}
use Rattle.cpa_model.specs.SystemLists.{SystemLists}
use Rattle.cpa_local.specs.Inputs.{input}
use Rattle.cpa_local.specs.OnClocks.{anchors_within}
use Rattle.cpa_local.specs.Local.{response, responses}
use Rattle.cpa_local.specs.Solution.{IsClosed}

abbrev processor : Resource
processor = record { name = []; kind = Preemptive; limit = 1000 }

abbrev source : Option OnClock → Source
source on = record { name = []; period = 10; jitter = 0; distance = 0; sporadic = false; on_clock = on }

abbrev task : ℕ → Activator → ℕ → ℕ → Task
task place after ticks priority = record { name = []; res = record { 0 = place }; after = after ∷ []; best = ticks; worst = ticks; turn = Priority priority; region = 1; locks = [] }

-- two tasks of 4 and 3 ticks on one processor; on a second one what the first activates, of 1 tick, and another of 2 by the second source
abbrev system : List Source → SystemLists
system sources =
    record {
      size = Large;
      resources = processor ∷ processor ∷ [];
      sources = sources;
      tasks = task 0 (FromSource (record { 0 = 0 })) 4 1 ∷ task 0 (FromSource (record { 0 = 1 })) 3 2 ∷ task 1 (FromTask (record { 0 = 0 })) 1 1 ∷ task 1 (FromSource (record { 0 = 1 })) 2 2 ∷ [];
      paths = [];
    }

abbrev at : ℕ → Option OnClock
at offset = Some (record { clock = 107 ∷ []; offset = offset })

-- the second source comes 5 after the first
abbrev on_a_clock : SystemLists
on_a_clock = system (source (at 0) ∷ source (at 5) ∷ [])

abbrev vector : List Bound
vector = map Within (4 ∷ 3 ∷ 1 ∷ 2 ∷ [])

-- nobody waits for anybody
by_clock : responses on_a_clock vector ≡ vector
unfolding response input anchors_within offset_bound window_bound most_of arrivals earliest_arrival busy_window_bound jobs_in_busy_window window stream_eta_plus eta_plus stream_delta_minus delta_minus least_from greatest_to
by_clock = refl

closed_by_clock : IsClosed on_a_clock vector
closed_by_clock = subst (λ v. IsNowhereAbove v vector) (sym by_clock) (IsNowhereAbove_refl vector)

-- without the clock that vector isn't closed
without : responses (system (source None ∷ source None ∷ [])) vector ≡ map Within (4 ∷ 7 ∷ 1 ∷ 3 ∷ [])
unfolding response input anchors_within most_of busy_window_bound jobs_in_busy_window window stream_eta_plus eta_plus stream_delta_minus delta_minus least_from greatest_to
without = refl
