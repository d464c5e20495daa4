-- The bound of a task on a resource that serves jobs in the order in which they came, whatever their tasks.
use Rattle.std.specs.Prelude.{ℕ, ◌-◌, ◌*◌, List}
use Rattle.cpa_units.specs.declared.bound.Bound.{Bound}
use Rattle.cpa_units.specs.declared.bound.Bound.TheVariants.{Within, Overload}
use Rattle.cpa_units.specs.Bounds.{bound_plus, bound_minus, greatest_of}
use Rattle.cpa_events.specs.Events.{Model}
use Rattle.cpa_events.specs.Events.{eta_plus}
use Rattle.cpa_window.specs.declared.rivals.Rival.{Rival}
use Rattle.cpa_window.specs.Rivals.{work_in}
use Rattle.cpa_window.specs.Windows.{window}

-- what all tasks of the resource ask for in a window: the rivals are all but the task itself
abbrev pub fifo_demand : Model → ℕ → List Rival → ℕ → Bound
fifo_demand own worst rivals w = bound_plus (Within (eta_plus own w * worst)) (work_in rivals w)

-- the response of a job that comes in the last tick of a window, at whose start nothing was left: all that came in the
-- window, that last tick with it, is done first, and the ticks before that one are gone by then
abbrev pub fifo_response : Model → ℕ → List Rival → ℕ → Bound
fifo_response own worst rivals w = bound_minus (fifo_demand own worst rivals w) (w - 1)

-- the greatest response in a busy window, in any tick of which a job may come
abbrev pub greatest_while_busy : (ℕ → Bound) → Bound → Bound
greatest_while_busy response (Within busy) = greatest_of response busy
greatest_while_busy response Overload = Overload

-- overload without a busy window, else its greatest response
abbrev pub fifo_bound : Model → ℕ → List Rival → ℕ → Bound
fifo_bound own worst rivals limit =
    greatest_while_busy (fifo_response own worst rivals) (window (fifo_demand own worst rivals) 1 limit)
