use Rattle.cpa_local.proofs.PlainLaws.{response-plain}
use Rattle.cpa_local.proofs.laws.plain_responses_are_the_same.Goals as goal

pub returns : goal.returns
returns c = response-plain c.plain_bounds_are_the_same.ensures
