use Rattle.std.proofs.lemmas.Result.{on_err_weaker}
use Rattle.cpa_run.specs.Answers.{IsReport}
use Rattle.cpa_call.proofs.SendLaws.{nothing-sent, on-err-any, sends-by, part-reply}
use Rattle.cpa_run.proofs.ReportLaws.{some-report, report-at}
use Rattle.cpa_run.proofs.sending.send_report.Goals as goal

pub returns-in_err-text-clause-part : goal.returns-in_err-text-clause-part
returns-in_err-text-clause-part g c = on-err-any _ _ (nothing-sent (IsReport c.args.system.now) (some-report c.args.system.now c.has_rules.ensures) (g.K.Sink.sent c.args.sink.now))

pub returns-clause-sends : goal.returns-clause-sends
returns-clause-sends g c =
    sends-by (IsReport c.args.system.now) c.verdict.result c.as_slice.result.now (g.K.Sink.sent c.args.sink.now) (g.K.Sink.sent c.send.new.sink) c.send.result
    (rw (c.verdict.ensures.value, c.as_slice.ensures.value, c.in_ok-text.ensures) (report-at c.args.system.now c.args.bounds.now c.has_rules.ensures c.requires))
    c.send.ensures.sent c.send.ensures.status

pub returns-clause-part : goal.returns-clause-part
returns-clause-part g c =
    on_err_weaker c.send.result
    (λ part. part-reply (IsReport c.args.system.now) c.verdict.result c.as_slice.result.now (g.K.Sink.sent c.args.sink.now) (g.K.Sink.sent c.send.new.sink)
    (rw (c.verdict.ensures.value, c.as_slice.ensures.value, c.in_ok-text.ensures) (report-at c.args.system.now c.args.bounds.now c.has_rules.ensures c.requires)) part)
    c.send.ensures.part
