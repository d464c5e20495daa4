use Rattle.cpa_units.proofs.SetLaws.{has-holds}
use Rattle.cpa_units.proofs.res_set.ResSet.has.Goals as goal

pub returns : goal.returns
returns c = rw (← c.self.view_is) (has-holds c.self.inside.bits c.args.res.0 c.requires)
