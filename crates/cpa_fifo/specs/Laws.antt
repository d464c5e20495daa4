-- The laws of the bound.
use Rattle.std.specs.Prelude.{ℕ, ◌≡◌, ◌≤◌, List}
use Rattle.cpa_units.specs.declared.bound.Bound.TheVariants.{Within}
use Rattle.cpa_units.specs.Bounds.{IsAtMost, RespectsLimit}
use Rattle.cpa_events.specs.Events.{Model}
use Rattle.cpa_events.specs.Events.{IsModel, IsNoDenser}
use Rattle.cpa_window.specs.declared.rivals.Rival.{Rival}
use Rattle.cpa_window.specs.Rivals.{AreNoHeavier}
use Rattle.cpa_window.specs.Windows.{window}
use Rattle.cpa_fifo.specs.Fifo.{fifo_demand, fifo_bound}

-- a denser input, a longer execution and heavier rivals leave no smaller a bound
abbrev pub FifoBoundsGrow : Type 0
FifoBoundsGrow =
    (own own' : Model) (worst worst' : ℕ) (rivals rivals' : List Rival) (limit : ℕ) → IsNoDenser own own' → worst ≤ worst' →
    AreNoHeavier rivals rivals' → IsAtMost (fifo_bound own worst rivals limit) (fifo_bound own' worst' rivals' limit)

-- a bound is at least the execution, and a number among bounds is within the limit
abbrev pub FifoBoundsAreInRange : Type 0
FifoBoundsAreInRange =
    (own : Model) (worst : ℕ) (rivals : List Rival) (limit : ℕ) → IsModel own →
    IsAtMost (Within worst) (fifo_bound own worst rivals limit) × RespectsLimit limit (fifo_bound own worst rivals limit)

-- it is no longer than the busy window
abbrev pub FifoBoundsAreInTheWindow : Type 0
FifoBoundsAreInTheWindow =
    (own : Model) (worst : ℕ) (rivals : List Rival) (limit : ℕ) → IsAtMost (fifo_bound own worst rivals limit) (window (fifo_demand own worst rivals) 1 limit)

-- where the same is asked for in all, the bound is the same: so all tasks of a resource have one bound
abbrev pub FifoBoundsGoByWork : Type 0
FifoBoundsGoByWork =
    (own own' : Model) (worst worst' : ℕ) (rivals rivals' : List Rival) (limit : ℕ) →
    ((w : ℕ) → fifo_demand own worst rivals w ≡ fifo_demand own' worst' rivals' w) →
    fifo_bound own worst rivals limit ≡ fifo_bound own' worst' rivals' limit
