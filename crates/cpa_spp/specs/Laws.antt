-- The laws of the bound.
use Rattle.std.specs.Prelude.{ℕ, ◌≡◌, ◌≤◌, List}
use Rattle.cpa_units.specs.declared.bound.Bound.TheVariants.{Within}
use Rattle.cpa_units.specs.Bounds.{IsAtMost, RespectsLimit}
use Rattle.cpa_events.specs.Events.{Model}
use Rattle.cpa_events.specs.Events.{IsNoDenser}
use Rattle.cpa_window.specs.declared.rivals.Rival.{Rival}
use Rattle.cpa_window.specs.Rivals.{work_in, AreNoHeavier}
use Rattle.cpa_spp.specs.Preemptive.{preemptive_bound}

-- a denser input, a longer execution, more blocking and heavier rivals leave no smaller a bound
abbrev pub PreemptiveBoundsGrow : Type 0
PreemptiveBoundsGrow =
    (own own' : Model) (worst worst' blocking blocking' : ℕ) (rivals rivals' : List Rival) (limit : ℕ) → IsNoDenser own own' → worst ≤ worst' → blocking ≤ blocking' → AreNoHeavier rivals rivals' →
    IsAtMost (preemptive_bound own worst blocking rivals limit) (preemptive_bound own' worst' blocking' rivals' limit)

-- a bound is at least the execution, and a number among bounds is within the limit
abbrev pub PreemptiveBoundsAreInRange : Type 0
PreemptiveBoundsAreInRange =
    (own : Model) (worst blocking : ℕ) (rivals : List Rival) (limit : ℕ) →
    IsAtMost (Within worst) (preemptive_bound own worst blocking rivals limit) × RespectsLimit limit (preemptive_bound own worst blocking rivals limit)

-- rivals that bring the same work leave the same bound: neither their slots nor their own bounds count
abbrev pub PreemptiveBoundsGoByWork : Type 0
PreemptiveBoundsGoByWork =
    (own : Model) (worst blocking : ℕ) (rivals rivals' : List Rival) (limit : ℕ) → ((w : ℕ) → work_in rivals w ≡ work_in rivals' w) →
    preemptive_bound own worst blocking rivals limit ≡ preemptive_bound own worst blocking rivals' limit
