use Rattle.cpa_local.proofs.ResponseLaws.{responses-mono}
use Rattle.cpa_local.proofs.laws.responses_are_monotone.Goals as goal

pub returns : goal.returns
returns c = responses-mono
