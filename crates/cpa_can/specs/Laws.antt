-- The laws of the bound.
use Rattle.std.specs.Prelude.{ℕ, ◌≡◌, ◌≤◌, List}
use Rattle.cpa_units.specs.declared.bound.Bound.TheVariants.{Within}
use Rattle.cpa_units.specs.Bounds.{IsAtMost, RespectsLimit}
use Rattle.cpa_events.specs.Events.{Model}
use Rattle.cpa_events.specs.Events.{IsModel, IsNoDenser}
use Rattle.cpa_window.specs.declared.rivals.Rival.{Rival}
use Rattle.cpa_window.specs.Rivals.{work_in, AreNoHeavier}
use Rattle.cpa_can.specs.Can.{can_bound}

-- a denser input, longer frames and heavier rivals leave no smaller a bound
abbrev pub CanBoundsGrow : Type 0
CanBoundsGrow =
    (own own' : Model) (worst worst' blocking blocking' : ℕ) (rivals rivals' : List Rival) (bit limit : ℕ) → IsNoDenser own own' → worst ≤ worst' →
    blocking ≤ blocking' → AreNoHeavier rivals rivals' →
    IsAtMost (can_bound own worst blocking rivals bit limit) (can_bound own' worst' blocking' rivals' bit limit)

-- a bound is at least the execution, and a number among bounds is within the limit
abbrev pub CanBoundsAreInRange : Type 0
CanBoundsAreInRange =
    (own : Model) (worst blocking : ℕ) (rivals : List Rival) (bit limit : ℕ) → IsModel own →
    IsAtMost (Within worst) (can_bound own worst blocking rivals bit limit) × RespectsLimit limit (can_bound own worst blocking rivals bit limit)

-- rivals that bring the same work leave the same bound: neither their slots nor their own bounds count
abbrev pub CanBoundsGoByWork : Type 0
CanBoundsGoByWork =
    (own : Model) (worst blocking : ℕ) (rivals rivals' : List Rival) (bit limit : ℕ) → ((w : ℕ) → work_in rivals w ≡ work_in rivals' w) →
    can_bound own worst blocking rivals bit limit ≡ can_bound own worst blocking rivals' bit limit
