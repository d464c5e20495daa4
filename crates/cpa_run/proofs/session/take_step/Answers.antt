use Rattle.std.proofs.Common.{ap, Err, refl}
use Rattle.cpa_run.specs.Steps.{IsWrittenPart}
use Rattle.cpa_call.proofs.SendLaws.{sent-nothing, on-err-any}
use Rattle.cpa_run.proofs.SessionLaws.{written-change, part-change, change-unchanged}
use Rattle.cpa_run.proofs.session.take_step.Goals as goal

pub returns-in_err-text-in-Err-Refused-clause-part : goal.returns-in_err-text-in-Err-Refused-clause-part
returns-in_err-text-in-Err-Refused-clause-part g c =
    let is = (c.in-Err-Refused.ensures.refused c.in-Err-Refused.number).0 (ap Err c.in-Err-Refused.field-0-is) in
    on-err-any _ (IsWrittenPart c.args.session.now c.args.line c.args.step.now (g.K.Sink.sent c.args.sink.now) (g.K.Sink.sent c.args.sink.now)) (rw c.in-Change.is (part-change c.args.session.now c.args.line _ (Err c.in-Err-Refused.number) (g.K.Sink.sent c.args.sink.now) (g.K.Sink.sent c.args.sink.now) is (sent-nothing (g.K.Sink.sent c.args.sink.now) _)))

pub returns-in_err-put_all-in-Err-Refused-clause-part : goal.returns-in_err-put_all-in-Err-Refused-clause-part
returns-in_err-put_all-in-Err-Refused-clause-part g c =
    let is = (c.in-Err-Refused.ensures.refused c.in-Err-Refused.number).0 (ap Err c.in-Err-Refused.field-0-is) in
    on-err-any _ (IsWrittenPart c.args.session.now c.args.line c.args.step.now (g.K.Sink.sent c.args.sink.now) (g.K.Sink.sent c.put_all.new.sink)) (rw c.in-Change.is (part-change c.args.session.now c.args.line _ (Err c.in-Err-Refused.number) (g.K.Sink.sent c.args.sink.now) (g.K.Sink.sent c.put_all.new.sink) is
    (rw (c.as_slice.ensures.value, c.in_ok-text-in-Err-Refused.ensures) at c.in_err-put_all-in-Err-Refused.ensures.part)))

pub returns-in_ok-put_all-in-Err-Refused-clause-written : goal.returns-in_ok-put_all-in-Err-Refused-clause-written
returns-in_ok-put_all-in-Err-Refused-clause-written g c =
    let is = (c.in-Err-Refused.ensures.refused c.in-Err-Refused.number).0 (ap Err c.in-Err-Refused.field-0-is) in
    rw c.in-Change.is (written-change c.args.session.now c.args.line _ (Err c.in-Err-Refused.number) (g.K.Sink.sent c.args.sink.now) (g.K.Sink.sent c.put_all.new.sink) is
    (rw (c.as_slice.ensures.value, c.in_ok-text-in-Err-Refused.ensures) at c.in_ok-put_all-in-Err-Refused.ensures.sent))

pub returns-in_ok-put_all-in-Err-Refused-clause-system : goal.returns-in_ok-put_all-in-Err-Refused-clause-system
returns-in_ok-put_all-in-Err-Refused-clause-system g c =
    let is = (c.in-Err-Refused.ensures.refused c.in-Err-Refused.number).0 (ap Err c.in-Err-Refused.field-0-is) in
    rw c.in-Change.is (change-unchanged c.args.session.now _ _ c.in-Err-Refused.number is c.in-Err-Refused.ensures.unchanged)

pub returns-in-Err-Memory-clause-part : goal.returns-in-Err-Memory-clause-part
returns-in-Err-Memory-clause-part g c =
    rw c.in-Change.is (part-change c.args.session.now c.args.line _ _ (g.K.Sink.sent c.args.sink.now) (g.K.Sink.sent c.args.sink.now) refl (sent-nothing (g.K.Sink.sent c.args.sink.now) _))
