-- What is known of the work of clocks.
use Rattle.std.specs.Prelude.{◌≡◌, ◌≤◌, ◌^◌, List, All}
use Rattle.cpa_phase.specs.declared.clock.Clock.{Clock}
use Rattle.cpa_phase.specs.declared.known.WindowWork.{WindowWork}
use Rattle.cpa_phase.specs.declared.known.KnownWork.{KnownWork}
use Rattle.cpa_phase.specs.Clocks.{clocks_work}

-- the work that the clocks bring in a window is this
pub record IsKnown (clocks : List Clock) (k : WindowWork) : Type 0 where
  pub value : k.work ≡ clocks_work clocks k.window
  pub small : k.work ≤ 2 ^ 88

-- so it is of each window that was looked at
pub record AreKnown (clocks : List Clock) (k : KnownWork) : Type 0 where
  pub each : All (IsKnown clocks) k.windows.items
