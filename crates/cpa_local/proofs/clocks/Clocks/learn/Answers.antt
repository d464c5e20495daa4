use Rattle.std.proofs.Common.{◌∙◌, sym}
use Rattle.cpa_local.proofs.OffClocks.{off-clocks}
use Rattle.cpa_local.proofs.clocks.Clocks.learn.Goals as goal

pub returns-else-has_clocks : goal.returns-else-has_clocks
returns-else-has_clocks c = record { some = tt; none = off-clocks c.args.system.now c.args.res.0 (sym c.has_clocks.ensures.value ∙ c.if-has_clocks.false) }
