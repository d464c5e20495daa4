use Rattle.std.proofs.Common.{refl}
use Rattle.cpa_run.proofs.performing.audit.Goals as goal

pub returns-clause-answer : goal.returns-clause-answer
returns-clause-answer c = rw (c.finding_status.ensures, c.in_ok-text.ensures, c.in_ok-finding.ensures.finding) refl
