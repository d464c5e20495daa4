use Rattle.std.proofs.Common.{refl}
use Rattle.cpa_draft.proofs.paths.is_short.Goals as goal

pub returns : goal.returns
returns c = refl
