use Rattle.cpa_run.proofs.ReportLaws.{report-at}
use Rattle.cpa_run.proofs.performing.analyse.Goals as goal

pub returns-clause-answer : goal.returns-clause-answer
returns-clause-answer g c = rw (c.verdict.ensures.value, c.in_ok-text.ensures) (report-at c.args.system.now c.in_ok-bounds.bounds c.has_rules.ensures c.in_ok-bounds.ensures.least)
