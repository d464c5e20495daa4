use Rattle.cpa_units.proofs.SetLaws.{meets-common, common-meets}
use Rattle.cpa_units.proofs.res_set.ResSet.meets.Goals as goal

pub returns : goal.returns
returns c =
    rw (← c.self.view_is, ← c.other.view_is)
    (meets-common c.self.inside.bits c.other.inside.bits c.self.invariant c.other.invariant, common-meets c.self.inside.bits c.other.inside.bits)
