-- The laws of the bound.
use Rattle.std.specs.Prelude.{ℕ, ◌≤◌}
use Rattle.cpa_units.specs.declared.bound.Bound.TheVariants.{Within}
use Rattle.cpa_units.specs.Bounds.{IsAtMost, RespectsLimit}
use Rattle.cpa_events.specs.Events.{Model}
use Rattle.cpa_events.specs.Events.{IsNoDenser}
use Rattle.cpa_tdma.specs.Tdma.{tdma_bound}

-- a denser input, a longer execution and a longer cycle leave no smaller a bound
abbrev pub TdmaBoundsGrow : Type 0
TdmaBoundsGrow =
    (own own' : Model) (worst worst' slot cycle cycle' limit : ℕ) → IsNoDenser own own' → worst ≤ worst' → cycle ≤ cycle' →
    IsAtMost (tdma_bound own worst slot cycle limit) (tdma_bound own' worst' slot cycle' limit)

-- a bound is at least the execution, and a number among bounds is within the limit
abbrev pub TdmaBoundsAreInRange : Type 0
TdmaBoundsAreInRange =
    (own : Model) (worst slot cycle limit : ℕ) → IsAtMost (Within worst) (tdma_bound own worst slot cycle limit) × RespectsLimit limit (tdma_bound own worst slot cycle limit)
