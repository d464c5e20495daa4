use Rattle.cpa_gen.proofs.MadeRules.{made_systems_keep_rules}
use Rattle.cpa_gen.proofs.laws.made_systems_have_laws.Goals as goal

pub returns : goal.returns
returns c = made_systems_keep_rules
