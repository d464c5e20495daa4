use Rattle.std.proofs.Common.{◌∙◌}
use Rattle.cpa_draft.proofs.SearchLaws.{first_longer-known}
use Rattle.cpa_draft.proofs.chains.first_long.Goals as goal

pub returns-clause-place : goal.returns-clause-place
returns-clause-place c = c.first_above.ensures.place ∙ first_longer-known c.args.links.now c.args.marks.now 32 c.requires.known c.requires.all c.requires.count
