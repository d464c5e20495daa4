-- The laws of the bound.
use Rattle.std.specs.Prelude.{ℕ, ◌≤◌, List}
use Rattle.cpa_units.specs.declared.bound.Bound.TheVariants.{Within}
use Rattle.cpa_units.specs.Bounds.{IsAtMost, RespectsLimit}
use Rattle.cpa_events.specs.Events.{Model}
use Rattle.cpa_events.specs.Events.{IsNoDenser}
use Rattle.cpa_window.specs.declared.rivals.Rival.{Rival}
use Rattle.cpa_window.specs.Rivals.{AreNoHeavier}
use Rattle.cpa_rr.specs.RoundRobin.{round_robin_bound}

-- a denser input, a longer execution and heavier rivals leave no smaller a bound
abbrev pub RoundRobinBoundsGrow : Type 0
RoundRobinBoundsGrow =
    (own own' : Model) (worst worst' slot : ℕ) (rivals rivals' : List Rival) (limit : ℕ) → IsNoDenser own own' → worst ≤ worst' → AreNoHeavier rivals rivals' →
    IsAtMost (round_robin_bound own worst slot rivals limit) (round_robin_bound own' worst' slot rivals' limit)

-- a bound is at least the execution, and a number among bounds is within the limit
abbrev pub RoundRobinBoundsAreInRange : Type 0
RoundRobinBoundsAreInRange =
    (own : Model) (worst slot : ℕ) (rivals : List Rival) (limit : ℕ) →
    IsAtMost (Within worst) (round_robin_bound own worst slot rivals limit) × RespectsLimit limit (round_robin_bound own worst slot rivals limit)
