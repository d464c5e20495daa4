use Rattle.cpa_draft.proofs.ranks.Ranks.new.Goals as goal

pub returns : goal.returns
returns c = c.new.ensures.empty
