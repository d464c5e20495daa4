-- Worked systems whose sources are on a clock.
use Rattle.std.proofs.Common.{◌≡◌, ℕ, List, [], ◌∷◌, map, false, Some, refl}
use Rattle.cpa_units.specs.declared.bound.Bound.{Bound}
use Rattle.cpa_units.specs.declared.bound.Bound.TheVariants.{Within}
use Rattle.cpa_units.specs.declared.limits.Size.TheVariants.{Large}
use Rattle.cpa_units.specs.Search.{least_from, greatest_to}
use Rattle.cpa_events.specs.Streams.{stream_delta_minus, stream_eta_plus}
use Rattle.cpa_events.specs.Events.{delta_minus, eta_plus}
use Rattle.cpa_window.specs.Windows.{window}
use Rattle.cpa_window.specs.BusyWindow.{jobs_in_busy_window, busy_window_bound}
use Rattle.cpa_phase.specs.Phases.{earliest_arrival, arrivals}
use Rattle.cpa_phase.specs.Clocks.{most_of}
use Rattle.cpa_offset.specs.Offsets.{window_bound, offset_bound}
use Rattle.cpa_model.specs.declared.entries.Kind.TheVariants.{Preemptive}
use Rattle.cpa_model.specs.declared.entries.Source.{Source}
use Rattle.cpa_model.specs.SystemLists.{SystemLists}
use Rattle.cpa_local.specs.Inputs.{input}
use Rattle.cpa_local.specs.Local.{response, responses}
use Rattle.cpa_local.specs.OnClocks.{anchors_within, anchor_list}
use Rattle.cpa_local.proofs.WorkedCases.{resource, from_source, from_task, task, model}

-- a source of period 10 on the one clock
abbrev at_offset : ℕ → Source
at_offset offset = record { name = []; period = 10; jitter = 0; distance = 0; sporadic = false; on_clock = Some (record { clock = 99 ∷ []; offset = offset }) }

-- a task of 3 ticks below one of 4, which comes so long before it
apart : ℕ → SystemLists
apart offset =
    record {
      size = Large;
      resources = resource Preemptive ∷ [];
      sources = at_offset 0 ∷ at_offset offset ∷ [];
      tasks = task 0 (from_source 0) 4 4 1 ∷ task 0 (from_source 1) 3 3 2 ∷ [];
      paths = [];
    }

apart-bounds : map (λ offset. response (apart offset) (map Within (4 ∷ 7 ∷ [])) 1) (5 ∷ 4 ∷ 3 ∷ 2 ∷ 1 ∷ 0 ∷ []) ≡ map Within (3 ∷ 3 ∷ 4 ∷ 5 ∷ 6 ∷ 7 ∷ [])
unfolding apart input response anchors_within offset_bound window_bound most_of arrivals earliest_arrival busy_window_bound jobs_in_busy_window window stream_eta_plus eta_plus stream_delta_minus delta_minus least_from greatest_to
apart-bounds = refl

-- A task of 2 to 4 ticks starts one of 3 on a second processor, where one of 4 comes 7 ticks after the start: what the first sends on
-- comes from 2 to 4 ticks after it, and meets no other.
sent_apart : SystemLists
sent_apart =
    record {
      size = Large;
      resources = resource Preemptive ∷ resource Preemptive ∷ [];
      sources = at_offset 0 ∷ at_offset 7 ∷ [];
      tasks = task 0 (from_source 0) 2 4 1 ∷ task 1 (from_task 0) 3 3 2 ∷ task 1 (from_source 1) 4 4 1 ∷ [];
      paths = [];
    }

abbrev sent_apart_bounds : List Bound
sent_apart_bounds = map Within (4 ∷ 3 ∷ 4 ∷ [])

sent_apart-inputs : map (input sent_apart sent_apart_bounds) (0 ∷ 1 ∷ 2 ∷ []) ≡ map Some (model 10 0 0 ∷ model 10 2 2 ∷ model 10 0 0 ∷ [])
unfolding sent_apart input
sent_apart-inputs = refl

sent_apart-anchors : map (anchor_list sent_apart) (0 ∷ 1 ∷ 2 ∷ []) ≡ map (λ offset. Some (record { clock = 0; offset = offset }) ∷ []) (0 ∷ 2 ∷ 7 ∷ [])
unfolding sent_apart anchors_within
sent_apart-anchors = refl

sent_apart-fixed : responses sent_apart sent_apart_bounds ≡ sent_apart_bounds
unfolding sent_apart input response anchors_within offset_bound window_bound most_of arrivals earliest_arrival busy_window_bound jobs_in_busy_window window stream_eta_plus eta_plus stream_delta_minus delta_minus least_from greatest_to
sent_apart-fixed = refl
