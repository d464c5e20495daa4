use Rattle.std.proofs.Common.{sym, subst}
use Rattle.cpa_local.specs.Solution.{IsLeast}
use Rattle.cpa_call.specs.Answers.{reply}
use Rattle.cpa_run.specs.Answers.{IsReport}
use Rattle.cpa_run.proofs.ReportLaws.{report-at}
use Rattle.cpa_kept.proofs.reporting.report_session.Goals as goal

pub returns-clause-answers : goal.returns-clause-answers
returns-clause-answers c =
    let s = c.system-system.result.now in
    let x = c.bounds-bounds.result.now in
    let same = c.system-system.ensures in
    let least : IsLeast s x = subst (λ t. IsLeast t x) (sym same) c.bounds-bounds.ensures.least in
    let there : IsReport s (reply c.verdict.result c.in_ok-report_text.field-0.items) = rw (c.verdict.ensures.value, c.in_ok-report_text.ensures) (report-at s x c.has_rules.ensures least) in
    subst (λ t. IsReport t (reply c.verdict.result c.in_ok-report_text.field-0.items)) same there
