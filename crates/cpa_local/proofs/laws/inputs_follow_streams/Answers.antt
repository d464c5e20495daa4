use Rattle.cpa_local.proofs.StreamLaws.{input-follows}
use Rattle.cpa_local.proofs.laws.inputs_follow_streams.Goals as goal

pub returns : goal.returns
returns c s x i m rules there bounded = input-follows s x rules i m there bounded
