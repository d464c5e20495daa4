use Rattle.std.proofs.Common.{◌∙◌, sym}
use Rattle.cpa_local.proofs.ClockedInputs.{cycle-none, unticking}
use Rattle.cpa_assign.proofs.by_clocks.cycle_of.Goals as goal

pub returns-in-None : goal.returns-in-None
returns-in-None c =
    let s = c.args.system.now in
    sym (cycle-none s c.args.source.0 c.requires (unticking s c.args.source.0 (sym c.ticking.ensures ∙ c.in-None.is)))
