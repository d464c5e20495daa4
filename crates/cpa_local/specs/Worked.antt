-- What is worked out once for the analyses of one resource's tasks. No contract of a public call speaks of it.
use Rattle.std.specs.Prelude.{ℕ, ◌≡◌, ◌<◌, ◌≤◌, Bool, List, [], length, map, Option, None, slice_index_or}
use Rattle.std.specs.Bool.{OnTrue, OnFalse}
use Rattle.std.specs.List.{range_with_len}
use Rattle.cpa_units.specs.declared.bound.Bound.{Bound}
use Rattle.cpa_events.specs.Events.{Model}
use Rattle.cpa_clock.specs.declared.anchor.Anchor.{Anchor}
use Rattle.cpa_clock.specs.Rivals.{ClockedRival}
use Rattle.cpa_clock.specs.Wider.{AreOffClocks}
use Rattle.cpa_clock.specs.Gathered.{IsInputOn, added_rival}
use Rattle.cpa_model.specs.Clocks.{clock_cycle}
use Rattle.cpa_model.specs.declared.entries.Kind.{Kind}
use Rattle.cpa_model.specs.declared.entries.Kind.TheVariants.{Preemptive, RoundRobin, Tdma, Can, Fifo, Ceiling}
use Rattle.cpa_model.specs.SystemLists.{SystemLists, task_at, resource_at, cycle_of}
use Rattle.cpa_model.specs.Kinds.{wants_inputs}
use Rattle.cpa_local.specs.Blocking.{blocking_between}
use Rattle.cpa_local.specs.Inputs.{AreInputs}
use Rattle.cpa_local.specs.OnClocks.{anchor_list, anchors_of}

-- whether a stream of a task is on a clock, and then the cycles of clocks, by the places of sources, and where each task's streams
-- are on clocks, by the tasks' places
pub record Clocked : Type 0 where
  pub on : Bool
  pub cycles : List ℕ
  pub anchors : List (List (Option Anchor))

-- the inputs, by the tasks' places, the cycle, the longest blocking, and what is known of clocks, that were worked out last
pub record Worked : Type 0 where
  pub clocks : Clocked
  pub inputs : List (Option Model)
  pub cycle : ℕ
  pub longest : ℕ

-- the cycle of resource r, where its kind has one
abbrev pub HasCycle : SystemLists → ℕ → ℕ → Kind → Type 0
HasCycle s r cycle (Tdma gap) = cycle ≡ cycle_of s r
HasCycle s r cycle Preemptive = Unit {0}
HasCycle s r cycle RoundRobin = Unit {0}
HasCycle s r cycle (Can bit) = Unit {0}
HasCycle s r cycle Fifo = Unit {0}
HasCycle s r cycle Ceiling = Unit {0}

-- no task on r blocks another by more, by the rule of this kind
abbrev pub IsLongest : SystemLists → ℕ → ℕ → Kind → Type 0
IsLongest s r longest kind = (i j : ℕ) → j < length s.tasks → (task_at s j).res.0 ≡ r → blocking_between s kind i j ≤ longest

-- the same under preemptive priority, also with ceilings
abbrev pub HasLongest : SystemLists → ℕ → ℕ → Kind → Type 0
HasLongest s r longest Preemptive = IsLongest s r longest Preemptive
HasLongest s r longest RoundRobin = Unit {0}
HasLongest s r longest (Tdma gap) = Unit {0}
HasLongest s r longest (Can bit) = Unit {0}
HasLongest s r longest Fifo = Unit {0}
HasLongest s r longest Ceiling = IsLongest s r longest Ceiling

-- the input of each task on r at x, where by its kind one task's bound depends on the inputs of others
abbrev pub HasInputs : SystemLists → ℕ → List Bound → List (Option Model) → Kind → Type 0
HasInputs s r x inputs kind = OnTrue (wants_inputs kind) (AreInputs s r x inputs)

-- no stream of a task on r is on a clock
abbrev pub IsOffClocks : SystemLists → ℕ → Type 0
IsOffClocks s r = (i : ℕ) → i < length s.tasks → (task_at s i).res.0 ≡ r → AreOffClocks (anchors_of s i)

-- where the streams of the tasks on r are on clocks
pub record HasAnchors (s : SystemLists) (r : ℕ) (clocks : Clocked) : Type 0 where
  pub cycles : clocks.cycles ≡ map (clock_cycle s) (range_with_len 0 (length s.sources))
  pub long : length s.tasks ≤ length clocks.anchors
  pub anchors : (i : ℕ) → i < length s.tasks → (task_at s i).res.0 ≡ r → slice_index_or clocks.anchors i [] ≡ anchor_list s i

-- they are on none, or it is known where
pub record AreAnchored (s : SystemLists) (r : ℕ) (clocks : Clocked) : Type 0 where
  pub some : OnTrue clocks.on (HasAnchors s r clocks)
  pub none : OnFalse clocks.on (IsOffClocks s r)

-- the same where bounds are by clocks
abbrev pub HasClocks : SystemLists → ℕ → Clocked → Kind → Type 0
HasClocks s r clocks Preemptive = AreAnchored s r clocks
HasClocks s r clocks RoundRobin = Unit {0}
HasClocks s r clocks (Tdma gap) = Unit {0}
HasClocks s r clocks (Can bit) = AreAnchored s r clocks
HasClocks s r clocks Fifo = Unit {0}
HasClocks s r clocks Ceiling = AreAnchored s r clocks

-- a task as its neighbours see it, where this list has the inputs
abbrev pub clocked_rival_by : SystemLists → List (Option Model) → ℕ → ClockedRival
clocked_rival_by s inputs j = added_rival (slice_index_or inputs j None) (anchor_list s j) (task_at s j).worst

-- the streams of the inputs of the tasks on r are on these clocks
abbrev pub AreInputsOn : SystemLists → ℕ → List ℕ → List (Option Model) → Type 0
AreInputsOn s r cycles inputs = (i : ℕ) → i < length s.tasks → (task_at s i).res.0 ≡ r → IsInputOn cycles (anchor_list s i) (slice_index_or inputs i None)

-- it is what the analyses of r's tasks at x share
pub record IsPrepared (s : SystemLists) (r : ℕ) (x : List Bound) (work : Worked) : Type 0 where
  pub cycle : HasCycle s r work.cycle (resource_at s r).kind
  pub longest : HasLongest s r work.longest (resource_at s r).kind
  pub inputs : HasInputs s r x work.inputs (resource_at s r).kind
  pub clocks : HasClocks s r work.clocks (resource_at s r).kind
