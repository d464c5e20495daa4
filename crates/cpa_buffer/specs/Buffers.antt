-- How many jobs wait, and how many can: an input's most events in a response time bound the backlog, as in Richter's
-- thesis (2005) and pyCPA.
use Rattle.std.specs.Prelude.{ℕ, ◌+◌, max, List, Option, Some, None, sum_by, count_by, fold}
use Rattle.std.specs.List.{range_with_len}
use Rattle.cpa_units.specs.declared.bound.Bound.{Bound}
use Rattle.cpa_units.specs.declared.bound.Bound.TheVariants.{Within, Overload}
use Rattle.cpa_units.specs.Bounds.{bound_of, sum_bounds}
use Rattle.cpa_events.specs.Events.{Model, eta_plus}
use Rattle.cpa_model.specs.SystemLists.{SystemLists, tasks_on}
use Rattle.cpa_local.specs.Inputs.{input}
use Rattle.cpa_trace.specs.Trace.{TraceLists}
use Rattle.cpa_sim.specs.Run.{is_open, run}
use Rattle.cpa_sim.specs.Outcome.{end_of}

-- the most events of an input in a bound; none is known where one of them is no number
abbrev pub buffer_at : Bound → Option Model → Bound
buffer_at (Within bound) (Some m) = Within (eta_plus m bound)
buffer_at (Within bound) None = Overload
buffer_at Overload m = Overload

-- how many jobs of a task can be pending at once
unfoldable pub buffer_of : SystemLists → List Bound → ℕ → Bound
buffer_of s x i = buffer_at (bound_of x i) (input s x i)

-- how many jobs of all tasks of a resource can
unfoldable pub buffer_on : SystemLists → List Bound → ℕ → Bound
buffer_on s x r = sum_bounds (buffer_of s x) (tasks_on s r)

-- how many jobs of a task are pending at a time of the run: those that have arrived by then and aren't complete
unfoldable pub pending_at : SystemLists → TraceLists → ℕ → ℕ → ℕ
pending_at s tr t i = count_by is_open ((run s tr t).jobs i)

-- how many jobs of all tasks of a resource are
unfoldable pub pending_on : SystemLists → TraceLists → ℕ → ℕ → ℕ
pending_on s tr t r = sum_by (pending_at s tr t) (tasks_on s r)

-- the greatest of `f 0` to `f last`
abbrev pub highest : (ℕ → ℕ) → ℕ → ℕ
highest f last = fold (λ most t. max most (f t)) 0 (range_with_len 0 (last + 1))

-- the greatest number of jobs of a task that are pending at one time, from 0 up to and with the end of the run
unfoldable pub peak_of : SystemLists → TraceLists → ℕ → ℕ
peak_of s tr i = highest (λ t. pending_at s tr t i) (end_of s tr)

-- that of the jobs of all tasks of a resource together
unfoldable pub peak_on : SystemLists → TraceLists → ℕ → ℕ
peak_on s tr r = highest (λ t. pending_on s tr t r) (end_of s tr)
