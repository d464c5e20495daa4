use Rattle.cpa_clock.proofs.CoverLaws.{work-covers}
use Rattle.cpa_clock.proofs.BoundLaws.{clocked_preemptive_bound-grows, clocked_can_bound-grows, clocked_preemptive_bound-at_most, clocked_can_bound-at_most}
use Rattle.cpa_clock.proofs.clocked_bounds_have_laws.Goals as goal

pub returns-clause-covered : goal.returns-clause-covered
returns-clause-covered c rival most moment count w cycle known x d js some is below all h = work-covers moment count w some rival most cycle x below js known d is all h

pub returns-clause-grow : goal.returns-clause-grow
returns-clause-grow c own own' anchors anchors' worst worst' blocking blocking' rivals rivals' cycle count limit wider h k others = (
  clocked_preemptive_bound-grows worst worst' blocking blocking' rivals rivals' cycle count limit h k others own own' anchors anchors' wider,
  λ bit. clocked_can_bound-grows worst worst' blocking blocking' rivals rivals' cycle count limit h k others own own' anchors anchors' bit wider,
)

pub returns-clause-below : goal.returns-clause-below
returns-clause-below c own anchors worst blocking rivals plain cycle count limit regular below same = (
  clocked_preemptive_bound-at_most worst blocking rivals plain cycle count limit same own anchors regular below,
  λ bit. clocked_can_bound-at_most worst blocking rivals plain cycle count limit same own anchors bit regular below,
)
