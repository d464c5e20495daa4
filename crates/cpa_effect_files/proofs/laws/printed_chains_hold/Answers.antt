use Rattle.cpa_effect_files.proofs.PrintedLaws.{printed-hold}
use Rattle.cpa_effect_files.proofs.laws.printed_chains_hold.Goals as goal

pub returns : goal.returns
returns c = printed-hold c.chains_have_bounds.ensures.least c.least_solutions_have_laws.ensures.exists
