use Rattle.cpa_fix.proofs.DependLaws.{clean_is_least}
use Rattle.cpa_fix.proofs.laws.clean_is_least.Goals as goal

pub returns : goal.returns
returns c = clean_is_least
