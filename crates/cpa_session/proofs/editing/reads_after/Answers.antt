use Rattle.std.proofs.Common.{◌∙◌, sym}
use Rattle.cpa_session.proofs.ChainsKept.{table-kept_by}
use Rattle.cpa_session.proofs.editing.reads_after.Goals as goal

pub returns-then-keeps_chains : goal.returns-then-keeps_chains
returns-then-keeps_chains c = λ old before made.
    table-kept_by old c.args.next.now c.args.edit.now c.args.reads.now made (sym c.keeps_chains.ensures ∙ c.if-keeps_chains.true) before
