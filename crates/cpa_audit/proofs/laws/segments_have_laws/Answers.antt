use Rattle.cpa_audit.proofs.AllLaws.{segments-are-all}
use Rattle.cpa_audit.proofs.FindingLaws.{same-is-equal}
use Rattle.cpa_audit.proofs.laws.segments_have_laws.Goals as goal

pub returns-clause-all : goal.returns-clause-all
returns-clause-all c = segments-are-all

pub returns-clause-same : goal.returns-clause-same
returns-clause-same c = same-is-equal
