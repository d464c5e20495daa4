use Rattle.std.proofs.Common.{refl}
use Rattle.cpa_trace.proofs.names.Names.new.Goals as goal

pub returns : goal.returns
returns c = rw (c.new.ensures.empty) refl
