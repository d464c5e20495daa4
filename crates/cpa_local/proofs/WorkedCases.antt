-- Worked systems: what tasks receive, and their bounds, at vectors.
use Rattle.std.proofs.Common.{◌≡◌, ℕ, ◌+◌, ◌*◌, List, [], ◌∷◌, ◌++◌, map, replicate, false, Some, None, refl}
use Rattle.cpa_units.specs.declared.bound.Bound.{Bound}
use Rattle.cpa_units.specs.declared.bound.Bound.TheVariants.{Within}
use Rattle.cpa_units.specs.declared.limits.Size.TheVariants.{Small}
use Rattle.cpa_units.specs.Search.{least_from, greatest_to}
use Rattle.cpa_events.specs.Streams.{stream_delta_minus, stream_eta_plus}
use Rattle.cpa_events.specs.Events.{Model, delta_minus, eta_plus}
use Rattle.cpa_window.specs.Windows.{window}
use Rattle.cpa_window.specs.BusyWindow.{jobs_in_busy_window, busy_window_bound}
use Rattle.cpa_phase.specs.Clocks.{most_of}
use Rattle.cpa_model.specs.declared.entries.Kind.{Kind}
use Rattle.cpa_model.specs.declared.entries.Kind.TheVariants.{Preemptive, Can}
use Rattle.cpa_model.specs.declared.entries.Resource.{Resource}
use Rattle.cpa_model.specs.declared.entries.Source.{Source}
use Rattle.cpa_model.specs.declared.entries.Activator.{Activator}
use Rattle.cpa_model.specs.declared.entries.Activator.TheVariants.{Source as FromSource, Task as FromTask}
use Rattle.cpa_model.specs.declared.entries.Turn.TheVariants.{Priority}
use Rattle.cpa_model.specs.declared.entries.Task.{Task}
use Rattle.cpa_model.specs.SystemLists.{SystemLists}
use Rattle.cpa_local.specs.Inputs.{input}
use Rattle.cpa_local.specs.Local.{response, responses}
use Rattle.cpa_local.specs.OnClocks.{anchors_within}

abbrev pub resource : Kind → Resource
resource kind = record { name = []; kind = kind; limit = 1000000 }

abbrev source : ℕ → ℕ → Source
source period jitter = record { name = []; period = period; jitter = jitter; distance = 0; sporadic = false; on_clock = None }

abbrev pub from_source : ℕ → List Activator
from_source k = FromSource (record { 0 = k }) ∷ []

abbrev pub from_task : ℕ → List Activator
from_task j = FromTask (record { 0 = j }) ∷ []

abbrev pub task : ℕ → List Activator → ℕ → ℕ → ℕ → Task
task place after best worst priority =
    record { name = []; res = record { 0 = place }; after = after; best = best; worst = worst; turn = Priority priority; region = 1; locks = [] }

abbrev pub model : ℕ → ℕ → ℕ → Model
model period jitter distance = record { period = period; jitter = jitter; distance = distance } ∷ []

-- two chains that cross on two processors, where the second task of each comes before the first of the other
abbrev crossing : List Task → SystemLists
crossing tasks =
    record { size = Small; resources = resource Preemptive ∷ resource Preemptive ∷ []; sources = source 100 0 ∷ source 100 0 ∷ []; tasks = tasks; paths = [] }

crossing_chains : SystemLists
crossing_chains =
    crossing (task 0 (from_source 0) 5 10 2 ∷ task 1 (from_task 0) 5 10 1 ∷ task 1 (from_source 1) 10 20 2 ∷ task 0 (from_task 2) 10 20 1 ∷ [])

abbrev crossing_bounds : List Bound
crossing_bounds = map Within (30 ∷ 10 ∷ 30 ∷ 20 ∷ [])

crossing_chains-inputs : map (input crossing_chains crossing_bounds) (0 ∷ 1 ∷ 2 ∷ 3 ∷ []) ≡ map Some (model 100 0 0 ∷ model 100 25 5 ∷ model 100 0 0 ∷ model 100 20 10 ∷ [])
unfolding crossing_chains input
crossing_chains-inputs = refl

crossing_chains-fixed : responses crossing_chains crossing_bounds ≡ crossing_bounds
unfolding crossing_chains input response anchors_within most_of busy_window_bound jobs_in_busy_window window stream_eta_plus eta_plus stream_delta_minus delta_minus least_from greatest_to
crossing_chains-fixed = refl

-- two chains that cross with two fixed points, where the first task has this greatest execution
two_fixed_points : ℕ → SystemLists
two_fixed_points worst =
    crossing (task 0 (from_source 0) 1 worst 2 ∷ task 1 (from_task 0) 10 30 1 ∷ task 1 (from_source 1) 1 20 2 ∷ task 0 (from_task 2) 10 30 1 ∷ [])

abbrev lesser_bounds : List Bound
lesser_bounds = map Within (50 ∷ 30 ∷ 50 ∷ 30 ∷ [])

abbrev greater_bounds : List Bound
greater_bounds = map Within (80 ∷ 39 ∷ 80 ∷ 39 ∷ [])

-- the bounds where the first task takes two ticks more
abbrev later_bounds : List Bound
later_bounds = map Within (82 ∷ 41 ∷ 80 ∷ 39 ∷ [])

lesser-inputs : map (input (two_fixed_points 20) lesser_bounds) (1 ∷ 3 ∷ []) ≡ map Some (model 100 49 1 ∷ model 100 49 1 ∷ [])
unfolding two_fixed_points input
lesser-inputs = refl

lesser-fixed : responses (two_fixed_points 20) lesser_bounds ≡ lesser_bounds
unfolding two_fixed_points input response anchors_within most_of busy_window_bound jobs_in_busy_window window stream_eta_plus eta_plus stream_delta_minus delta_minus least_from greatest_to
lesser-fixed = refl

greater-inputs : map (input (two_fixed_points 20) greater_bounds) (1 ∷ 3 ∷ []) ≡ map Some (model 100 79 1 ∷ model 100 79 1 ∷ [])
unfolding two_fixed_points input
greater-inputs = refl

greater-fixed : responses (two_fixed_points 20) greater_bounds ≡ greater_bounds
unfolding two_fixed_points input response anchors_within most_of busy_window_bound jobs_in_busy_window window stream_eta_plus eta_plus stream_delta_minus delta_minus least_from greatest_to
greater-fixed = refl

later-inputs : map (input (two_fixed_points 22) later_bounds) (1 ∷ 3 ∷ []) ≡ map Some (model 100 81 1 ∷ model 100 79 1 ∷ [])
unfolding two_fixed_points input
later-inputs = refl

later-fixed : responses (two_fixed_points 22) later_bounds ≡ later_bounds
unfolding two_fixed_points input response anchors_within most_of busy_window_bound jobs_in_busy_window window stream_eta_plus eta_plus stream_delta_minus delta_minus least_from greatest_to
later-fixed = refl

-- a task that two sources start, and one that it starts
two_activators : SystemLists
two_activators =
    record {
      size = Small;
      resources = resource Preemptive ∷ resource Preemptive ∷ [];
      sources = source 10 0 ∷ source 20 0 ∷ [];
      tasks = task 0 (from_source 0 ++ from_source 1) 1 3 1 ∷ task 1 (from_task 0) 2 2 1 ∷ [];
      paths = [];
    }

abbrev two_activators_bounds : List Bound
two_activators_bounds = map Within (6 ∷ 4 ∷ [])

two_activators-inputs : map (input two_activators two_activators_bounds) (0 ∷ 1 ∷ []) ≡ map Some ((model 10 0 0 ++ model 20 0 0) ∷ (model 10 5 1 ++ model 20 5 1) ∷ [])
unfolding two_activators input
two_activators-inputs = refl

two_activators-fixed : responses two_activators two_activators_bounds ≡ two_activators_bounds
unfolding two_activators input response anchors_within most_of busy_window_bound jobs_in_busy_window window stream_eta_plus eta_plus stream_delta_minus delta_minus least_from greatest_to
two_activators-fixed = refl

-- a source whose events reach a task twice
shared_source : SystemLists
shared_source =
    record {
      size = Small;
      resources = resource Preemptive ∷ [];
      sources = source 100 0 ∷ [];
      tasks = task 0 (from_source 0) 1 1 1 ∷ task 0 (from_source 0) 1 1 2 ∷ task 0 (from_task 0 ++ from_task 1) 1 1 3 ∷ [];
      paths = [];
    }

abbrev shared_source_bounds : List Bound
shared_source_bounds = map Within (1 ∷ 2 ∷ 4 ∷ [])

shared_source-inputs : input shared_source shared_source_bounds 2 ≡ Some (model 100 0 1 ++ model 100 1 1)
unfolding shared_source input
shared_source-inputs = refl

shared_source-fixed : responses shared_source shared_source_bounds ≡ shared_source_bounds
unfolding shared_source input response anchors_within most_of busy_window_bound jobs_in_busy_window window stream_eta_plus eta_plus stream_delta_minus delta_minus least_from greatest_to
shared_source-fixed = refl

-- three tasks of one processor, where those of lower priority have regions
abbrev with_region : ℕ → ℕ → ℕ → ℕ → ℕ → Task
with_region k best worst priority region =
    record { name = []; res = record { 0 = 0 }; after = from_source k; best = best; worst = worst; turn = Priority priority; region = region; locks = [] }

regions : SystemLists
regions =
    record {
      size = Small;
      resources = resource Preemptive ∷ [];
      sources = source 10 0 ∷ source 20 5 ∷ source 40 0 ∷ [];
      tasks = with_region 0 1 3 1 1 ∷ with_region 1 2 4 2 2 ∷ with_region 2 6 9 3 4 ∷ [];
      paths = [];
    }

regions-fixed : responses regions (map Within (6 ∷ 10 ∷ 26 ∷ [])) ≡ map Within (6 ∷ 10 ∷ 26 ∷ [])
unfolding regions input response anchors_within most_of busy_window_bound jobs_in_busy_window window stream_eta_plus eta_plus stream_delta_minus delta_minus least_from greatest_to
regions-fixed = refl

-- The network of a car: six processors and two CAN buses. Chain k has three tasks, which begin at place 3 * k: a sensor's
-- on a processor, its frame on a bus, and an actuator's on a processor.
abbrev chain : ℕ → ℕ → ℕ → ℕ → ℕ → ℕ → List Task
chain k sensor bus actuator sensed acted =
    task sensor (from_source k) 100 200 sensed ∷ task bus (from_task (3 * k)) 222 270 k ∷ task actuator (from_task (3 * k + 1)) 150 300 acted ∷ []

-- and each processor has nine tasks besides, of lower priority
abbrev local_tasks : ℕ → List Task
local_tasks place =
    map (λ m. task place (from_source (12 + m)) 200 400 (30 + m)) (0 ∷ 1 ∷ 2 ∷ 3 ∷ 4 ∷ 5 ∷ 6 ∷ 7 ∷ [])
    ++ task place (from_source 12) 200 400 38 ∷ []

car_network : SystemLists
car_network =
    record {
      size = Small;
      resources = map resource (Preemptive ∷ Preemptive ∷ Preemptive ∷ Preemptive ∷ Preemptive ∷ Preemptive ∷ Can 2 ∷ Can 2 ∷ []);
      sources = replicate 12 (source 10000 0) ++ replicate 7 (source 20000 500) ++ source 100000 500 ∷ [];
      tasks = chain 0 0 6 3 10 20 ++ chain 1 1 7 4 10 20 ++ chain 2 2 6 5 10 20 ++ chain 3 3 7 0 10 20 ++ chain 4 4 6 1 10 20 ++ chain 5 5 7 2 10 20
          ++ chain 6 0 6 3 11 21 ++ chain 7 1 7 4 11 21 ++ chain 8 2 6 5 11 21 ++ chain 9 3 7 0 11 21 ++ chain 10 4 6 1 11 21 ++ chain 11 5 7 2 11 21
          ++ local_tasks 0 ++ local_tasks 1 ++ local_tasks 2 ++ local_tasks 3 ++ local_tasks 4 ++ local_tasks 5;
      paths = [];
    }

abbrev local_bounds : List ℕ
local_bounds = 1400 ∷ 1800 ∷ 2200 ∷ 2600 ∷ 3000 ∷ 3400 ∷ 3800 ∷ 4200 ∷ 4600 ∷ []

car_bounds : List Bound
car_bounds =
    map Within (
    200 ∷ 540 ∷ 700 ∷ 200 ∷ 540 ∷ 700 ∷ 200 ∷ 810 ∷ 700 ∷ 200 ∷ 810 ∷ 700 ∷ 200 ∷ 1080 ∷ 700 ∷ 200 ∷ 1080 ∷ 700
    ∷ 400 ∷ 1350 ∷ 1000 ∷ 400 ∷ 1350 ∷ 1000 ∷ 400 ∷ 1620 ∷ 1000 ∷ 400 ∷ 1620 ∷ 1000 ∷ 400 ∷ 1620 ∷ 1000 ∷ 400 ∷ 1620 ∷ 1000
    ∷ local_bounds ++ local_bounds ++ local_bounds ++ local_bounds ++ local_bounds ++ local_bounds
    )

car_network-inputs : map (input car_network car_bounds) (0 ∷ 1 ∷ 2 ∷ []) ≡ map Some (model 10000 0 0 ∷ model 10000 100 100 ∷ model 10000 418 222 ∷ [])
unfolding car_network car_bounds input
car_network-inputs = refl

car_network-bounds : map (response car_network car_bounds) (0 ∷ 1 ∷ 2 ∷ []) ≡ map Within (200 ∷ 540 ∷ 700 ∷ [])
unfolding car_network car_bounds input response anchors_within most_of busy_window_bound jobs_in_busy_window window stream_eta_plus eta_plus stream_delta_minus delta_minus least_from greatest_to
car_network-bounds = refl
