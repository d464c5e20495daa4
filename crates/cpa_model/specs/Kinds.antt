-- What the kinds of resources differ in, but for their bounds and their step rules: one more kind has an arm in each.
use Rattle.std.specs.Prelude.{ℕ, ◌-◌, min, Bool, IsTrue, true, false}
use Rattle.cpa_model.specs.declared.entries.Kind.{Kind}
use Rattle.cpa_model.specs.declared.entries.Kind.TheVariants.{Preemptive, RoundRobin, Tdma, Can, Fifo, Ceiling}
use Rattle.cpa_model.specs.declared.entries.Task.{Task}

-- whether its tasks have priorities; those of the others have slots, or neither where they queue
abbrev pub has_priorities : Kind → Bool
has_priorities Preemptive = true
has_priorities RoundRobin = false
has_priorities (Tdma gap) = false
has_priorities (Can bit) = true
has_priorities Fifo = false
has_priorities Ceiling = true

abbrev pub HasPriorities : Kind → Type 0
HasPriorities kind = IsTrue (has_priorities kind)

-- whether the bounds of tasks bear on those of others on the same resource: under round robin a rival's bound counts
abbrev pub has_feedback : Kind → Bool
has_feedback Preemptive = false
has_feedback RoundRobin = true
has_feedback (Tdma gap) = false
has_feedback (Can bit) = false
has_feedback Fifo = false
has_feedback Ceiling = false

-- whether a task's bound depends on the inputs of others on the same resource
abbrev pub wants_inputs : Kind → Bool
wants_inputs Preemptive = true
wants_inputs RoundRobin = true
wants_inputs (Tdma gap) = false
wants_inputs (Can bit) = true
wants_inputs Fifo = true
wants_inputs Ceiling = true

-- by how long a job of this task that has begun keeps a more urgent one waiting, whichever that is: under preemptive priority by the rest of a
-- region after its first tick, with fixed preemption points as in Davis and Bertogna (2012); on CAN by a whole frame (Davis et
-- al., 2007); where tasks take turns or queue there is no such blocking. Critical sections block by their ceilings besides
abbrev pub blocking_by : Kind → Task → ℕ
blocking_by Preemptive t = min t.region t.worst - 1
blocking_by RoundRobin t = 0
blocking_by (Tdma gap) t = 0
blocking_by (Can bit) t = t.worst
blocking_by Fifo t = 0
blocking_by Ceiling t = min t.region t.worst - 1

-- whether jobs are served in the order in which they came
abbrev pub is_queue : Kind → Bool
is_queue Fifo = true
is_queue _ = false

-- whether the kind is one of large systems alone
abbrev pub is_later_kind : Kind → Bool
is_later_kind Fifo = true
is_later_kind Ceiling = true
is_later_kind _ = false

-- whether jobs hold locks under ceilings
abbrev pub has_ceilings : Kind → Bool
has_ceilings Ceiling = true
has_ceilings _ = false
