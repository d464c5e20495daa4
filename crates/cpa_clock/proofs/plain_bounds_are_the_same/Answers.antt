use Rattle.cpa_clock.proofs.OffLaws.{preemptive-off, can-off}
use Rattle.cpa_clock.proofs.plain_bounds_are_the_same.Goals as goal

pub returns : goal.returns
returns c own anchors worst blocking rivals plain cycle count limit own_off off same = (
  preemptive-off own anchors worst blocking rivals plain cycle count limit own_off off same,
  can-off own anchors worst blocking rivals plain cycle count limit own_off off same,
)
