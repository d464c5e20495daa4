-- Input models: what each task receives, along the chains of activations, at the bounds that a vector gives. Jitter grows
-- along a chain as in Richter's thesis and SymTA/S.
use Rattle.std.specs.Prelude.{ℕ, zero, suc, ◌≡◌, ◌<◌, Bool, true, false, Option, Some, None, List, [], ◌∷◌, ◌++◌, length, slice_index_or}
use Rattle.cpa_units.specs.declared.bound.Bound.{Bound}
use Rattle.cpa_units.specs.declared.bound.Bound.TheVariants.{Within, Overload}
use Rattle.cpa_units.specs.declared.limits.TheConstants.{MAX_CHAIN}
use Rattle.cpa_units.specs.Bounds.{bound_of}
use Rattle.cpa_events.specs.Events.{Model}
use Rattle.cpa_events.specs.Events.{after_response}
use Rattle.cpa_model.specs.declared.entries.Activator.{Activator}
use Rattle.cpa_model.specs.declared.entries.Activator.TheVariants.{Source as FromSource, Task as FromTask}
use Rattle.cpa_model.specs.SystemLists.{SystemLists, task_at}
use Rattle.cpa_model.specs.Streams.{source_model}

-- what comes out of a task with this least execution, bound and input; unbounded where its bound or its input is
abbrev pub output_of : ℕ → Bound → Option Model → Option Model
output_of best (Within bound) (Some m) = Some (after_response m best bound)
output_of best (Within bound) None = None
output_of best Overload m = None

-- what an activator sends, where `input` says the tasks' inputs
abbrev pub sent_by : SystemLists → List Bound → (ℕ → Option Model) → Activator → Option Model
sent_by s x input (FromSource k) = Some (source_model s k.0)
sent_by s x input (FromTask j) = output_of (task_at s j.0).best (bound_of x j.0) (input j.0)

-- two lists of streams as one, the first list's streams before the second's; unbounded where one is
abbrev pub joined : Option Model → Option Model → Option Model
joined (Some m) (Some n) = Some (m ++ n)
joined (Some m) None = None
joined None n = None

-- what some activators send, one after the other
abbrev pub sent_by_all : SystemLists → List Bound → (ℕ → Option Model) → List Activator → Option Model
sent_by_all s x input [] = Some []
sent_by_all s x input (a ∷ others) = joined (sent_by s x input a) (sent_by_all s x input others)

-- the input of a task whose chains have at most so many tasks
abbrev pub input_along : SystemLists → List Bound → ℕ → ℕ → Option Model
input_along s x zero i = None
input_along s x (suc more) i = sent_by_all s x (input_along s x more) (task_at s i).after

-- the input of a task at a vector; none where it is unbounded
unfoldable pub input : SystemLists → List Bound → ℕ → Option Model
input s x i = input_along s x MAX_CHAIN i

-- a list that has, by place, the input of each task on resource r
abbrev pub AreInputs : SystemLists → ℕ → List Bound → List (Option Model) → Type 0
AreInputs s r x inputs = (i : ℕ) → i < length s.tasks → (task_at s i).res.0 ≡ r → slice_index_or inputs i None ≡ input s x i

-- a list that has the inputs of the tasks that are told known
abbrev pub AreKnown : SystemLists → List Bound → List Bool → List (Option Model) → Type 0
AreKnown s x known inputs =
    (i : ℕ) → slice_index_or known i false ≡ true → (i < length inputs) × (slice_index_or inputs i None ≡ input s x i)

-- what was found, where something was
abbrev pub found_if : Bool → Model → Option Model
found_if true m = Some m
found_if false m = None
