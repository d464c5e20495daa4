-- Numbers within the product's limits.
use Rattle.std.specs.Prelude.{ℕ, ◌<◌, ◌≤◌}
use Rattle.cpa_units.specs.declared.limits.TheConstants.{MAX_EXECUTION}

-- an execution or a slot: some ticks, within the limits
pub record IsExecution (ticks : ℕ) : Type 0 where
  pub some : 0 < ticks
  pub small : ticks ≤ MAX_EXECUTION
