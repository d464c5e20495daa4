-- The bound of each task at a vector where nothing is known of clocks: that of a system in which no source is on one.
use Rattle.std.specs.Prelude.{ℕ, Option, Some, None, List, map}
use Rattle.cpa_units.specs.declared.bound.Bound.{Bound}
use Rattle.cpa_units.specs.declared.bound.Bound.TheVariants.{Overload}
use Rattle.cpa_events.specs.Events.{Model}
use Rattle.cpa_spp.specs.Preemptive.{preemptive_bound}
use Rattle.cpa_can.specs.Can.{can_bound}
use Rattle.cpa_model.specs.declared.entries.Kind.{Kind}
use Rattle.cpa_model.specs.declared.entries.Kind.TheVariants.{Preemptive, RoundRobin, Tdma, Can, Fifo, Ceiling}
use Rattle.cpa_model.specs.SystemLists.{SystemLists, task_at, resource_of, higher_tasks}
use Rattle.cpa_local.specs.Blocking.{blocking_of}
use Rattle.cpa_local.specs.Inputs.{input}
use Rattle.cpa_local.specs.Local.{rival_of, bound_by_kind}

-- under preemptive priority, of a task with a bounded input that is kept waiting for so long at most by those of lower priority
abbrev pub plain_priority_bound : SystemLists → List Bound → ℕ → Model → ℕ → Bound
plain_priority_bound s x i own blocking = preemptive_bound own (task_at s i).worst blocking (map (rival_of s x) (higher_tasks s i)) (resource_of s i).limit

-- by the rule of the resource's kind, of a task with a bounded input
abbrev pub plain_by_kind : SystemLists → List Bound → ℕ → Model → Kind → Bound
plain_by_kind s x i own Preemptive = plain_priority_bound s x i own (blocking_of s Preemptive i)
plain_by_kind s x i own RoundRobin = bound_by_kind s x i own RoundRobin
plain_by_kind s x i own (Tdma gap) = bound_by_kind s x i own (Tdma gap)
plain_by_kind s x i own Fifo = bound_by_kind s x i own Fifo
plain_by_kind s x i own Ceiling = plain_priority_bound s x i own (blocking_of s Ceiling i)
plain_by_kind s x i own (Can bit) =
    can_bound own (task_at s i).worst (blocking_of s (Can bit) i) (map (rival_of s x) (higher_tasks s i)) bit (resource_of s i).limit

abbrev pub plain_at_input : SystemLists → List Bound → ℕ → Option Model → Bound
plain_at_input s x i (Some own) = plain_by_kind s x i own (resource_of s i).kind
plain_at_input s x i None = Overload

unfoldable pub plain_response : SystemLists → List Bound → ℕ → Bound
plain_response s x i = plain_at_input s x i (input s x i)
