-- The bound of each task at a vector: of one task, if all others keep to the bounds that the vector gives them.
use Rattle.std.specs.Prelude.{ℕ, Option, Some, None, List, map, length}
use Rattle.cpa_units.specs.declared.bound.Bound.{Bound}
use Rattle.cpa_units.specs.declared.bound.Bound.TheVariants.{Overload}
use Rattle.cpa_units.specs.Bounds.{bound_of}
use Rattle.cpa_events.specs.Events.{Model}
use Rattle.cpa_window.specs.declared.rivals.Rival.{Rival}
use Rattle.cpa_rr.specs.RoundRobin.{round_robin_bound}
use Rattle.cpa_tdma.specs.Tdma.{tdma_bound}
use Rattle.cpa_fifo.specs.Fifo.{fifo_bound}
use Rattle.cpa_clock.specs.Clocked.{clocked_preemptive_bound, clocked_can_bound}
use Rattle.cpa_model.specs.Clocks.{clock_cycle}
use Rattle.cpa_model.specs.declared.entries.Kind.{Kind}
use Rattle.cpa_model.specs.declared.entries.Kind.TheVariants.{Preemptive, RoundRobin, Tdma, Can, Fifo, Ceiling}
use Rattle.cpa_model.specs.SystemLists.{SystemLists, task_at, resource_of, task_places, slot_of, higher_tasks, other_tasks, cycle_of}
use Rattle.cpa_local.specs.Blocking.{blocking_of}
use Rattle.cpa_local.specs.Inputs.{input}
use Rattle.cpa_local.specs.OnClocks.{anchors_of, clocked_rival_of}

-- a task as its neighbours see it, where nothing is known of clocks
abbrev pub rival_of : SystemLists → List Bound → ℕ → Rival
rival_of s x j =
    record {
      model = input s x j;
      worst = (task_at s j).worst;
      slot = slot_of (task_at s j).turn;
      bound = bound_of x j;
    }

-- the bound under preemptive priority, of a task with a bounded input that is kept waiting for so long at most by those of lower priority
abbrev pub priority_bound : SystemLists → List Bound → ℕ → Model → ℕ → Bound
priority_bound s x i own blocking =
    clocked_preemptive_bound own (anchors_of s i) (task_at s i).worst blocking (map (clocked_rival_of s x) (higher_tasks s i))
    (clock_cycle s) (length s.sources) (resource_of s i).limit

-- the bound by the rule of the resource's kind, of a task with a bounded input
abbrev pub bound_by_kind : SystemLists → List Bound → ℕ → Model → Kind → Bound
bound_by_kind s x i own Preemptive = priority_bound s x i own (blocking_of s Preemptive i)
bound_by_kind s x i own RoundRobin =
    round_robin_bound own (task_at s i).worst (slot_of (task_at s i).turn) (map (rival_of s x) (other_tasks s i)) (resource_of s i).limit
bound_by_kind s x i own (Tdma gap) =
    tdma_bound own (task_at s i).worst (slot_of (task_at s i).turn) (cycle_of s (task_at s i).res.0) (resource_of s i).limit
bound_by_kind s x i own (Can bit) =
    clocked_can_bound own (anchors_of s i) (task_at s i).worst (blocking_of s (Can bit) i) (map (clocked_rival_of s x) (higher_tasks s i))
    (clock_cycle s) (length s.sources) bit (resource_of s i).limit
bound_by_kind s x i own Ceiling = priority_bound s x i own (blocking_of s Ceiling i)
bound_by_kind s x i own Fifo =
    fifo_bound own (task_at s i).worst (map (rival_of s x) (other_tasks s i)) (resource_of s i).limit

abbrev pub bound_at_input : SystemLists → List Bound → ℕ → Option Model → Bound
bound_at_input s x i (Some own) = bound_by_kind s x i own (resource_of s i).kind
bound_at_input s x i None = Overload

-- the bound of a task, by the bounds of all tasks
unfoldable pub response : SystemLists → List Bound → ℕ → Bound
response s x i = bound_at_input s x i (input s x i)

-- the bounds of all tasks
abbrev pub responses : SystemLists → List Bound → List Bound
responses s x = map (response s x) (task_places s)
