use Rattle.cpa_units.proofs.SetLaws.{none-holds}
use Rattle.cpa_units.proofs.res_set.ResSet.none.Goals as goal

pub returns : goal.returns
returns c = none-holds
