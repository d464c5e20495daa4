use Rattle.std.proofs.Common.{ℕ, Vec, Global, map, ap}
use Rattle.cpa_draft.proofs.names.Names.new.Goals as goal

pub returns : goal.returns
returns c = ap (map (λ (v : Vec ℕ Global). v.items)) c.new.ensures.empty
