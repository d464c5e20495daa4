use Rattle.cpa_model.proofs.RedraftLaws.{redraft-accepted, redraft-stands}
use Rattle.cpa_model.proofs.build.own_drafts_have_laws.Goals as goal

pub returns-clause-accepted : goal.returns-clause-accepted
returns-clause-accepted c = redraft-accepted

pub returns-clause-stand : goal.returns-clause-stand
returns-clause-stand c = redraft-stands
