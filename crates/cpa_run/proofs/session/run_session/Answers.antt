use Rattle.std.proofs.Common.{◌+◌, ◌≤◌, sym, subst, slice_get, length, arith}
use Rattle.std.proofs.lemmas.Result.{IfOk-weaker, on_err_weaker}
use Rattle.cpa_run.specs.Session.{IsSession}
use Rattle.cpa_run.specs.Steps.{IsUnderWay}
use Rattle.cpa_call.proofs.SendLaws.{nothing-sent, on-err-any}
use Rattle.cpa_run.proofs.SessionLaws.{some-session, step-of, after-size, under-way-start, under-way-more, part-step, sends-session, part-session}
use Rattle.cpa_run.proofs.session.run_session.Goals as goal

pub returns-in_err-trail-clause-part : goal.returns-in_err-trail-clause-part
returns-in_err-trail-clause-part g c =
    on-err-any _ _ (nothing-sent (IsSession c.args.system c.args.script.now) (some-session c.args.script.now c.args.system c.has_rules.ensures c.requires) (g.K.Sink.sent c.args.sink.now))

pub returns-in_err-session-clause-part : goal.returns-in_err-session-clause-part
returns-in_err-session-clause-part g c =
    on-err-any _ _ (nothing-sent (IsSession c.args.system c.args.script.now) (some-session c.args.script.now c.args.system c.has_rules.ensures c.requires) (g.K.Sink.sent c.args.sink.now))

pub loop-k-init : goal.loop-k-init
loop-k-init g c = (
  subst (λ t. IsUnderWay c.args.system c.args.script.now 0 t (g.K.Sink.sent c.args.sink.now) (g.K.Sink.sent c.args.sink.now)) (sym c.in_ok-session.ensures.value)
      (under-way-start c.args.system c.args.script.now (g.K.Sink.sent c.args.sink.now) c.has_rules.ensures),
  rw (c.in_ok-session.ensures.value, ← c.size.ensures) (omega (arith, c.in_ok-trail.ensures.room, c.in_ok-session.ensures.kept.room)),
  omega arith,
)

pub take_step-requires-after_bounds : goal.take_step-requires-after_bounds
take_step-requires-after_bounds g c κs within = c.loop-k.invariant.1

pub loop-k-preserved : goal.loop-k-preserved
loop-k-preserved g c =
    let at = step-of (slice_get c.args.script.now c.loop-k.k) c.line.result c.step.result.now c.line.ensures c.step.ensures in (
      subst (λ t. IsUnderWay c.args.system c.args.script.now (c.loop-k.k + 1) t (g.K.Sink.sent c.args.sink.now) (g.K.Sink.sent c.take_step.new.sink)) (sym c.in_ok-take_step.ensures.system)
          (under-way-more c.args.system c.args.script.now c.loop-k.k c.loop-k.session (g.K.Sink.sent c.args.sink.now) (g.K.Sink.sent c.loop-k.sink) (g.K.Sink.sent c.take_step.new.sink) c.line.result c.step.result.now
          c.requires c.loop-k.invariant.0 at c.in_ok-take_step.ensures.written),
      rw (c.in_ok-take_step.ensures.system, after-size c.loop-k.session c.step.result.now) (omega (arith, c.loop-k.invariant.1, c.take_step.ensures.room)),
      omega (arith, c.loop-k.invariant.2, c.take_step.ensures.rises),
    )

pub returns-in_err-take_step-clause-part : goal.returns-in_err-take_step-clause-part
returns-in_err-take_step-clause-part g c =
    let at = step-of (slice_get c.args.script.now c.loop-k.k) c.line.result c.step.result.now c.line.ensures c.step.ensures in
    on-err-any _ _ (part-step c.args.system c.args.script.now c.loop-k.k c.loop-k.session (g.K.Sink.sent c.args.sink.now) (g.K.Sink.sent c.loop-k.sink) (g.K.Sink.sent c.take_step.new.sink) c.line.result c.step.result.now
    c.requires c.loop-k.invariant.0 at c.in_err-take_step.ensures.part)

pub returns-clause-sends : goal.returns-clause-sends
returns-clause-sends g c =
    let all : length c.args.script.now ≤ c.loop-k.k = omega (arith, c.loop-k-test.false, c.len-k-end.ensures) in
    let same = c.system-2.ensures in
    IfOk-weaker c.send_report.result _ _
    (λ status sent.
    sends-session c.args.system c.args.script.now c.loop-k.k c.loop-k.session status (g.K.Sink.sent c.args.sink.now) (g.K.Sink.sent c.loop-k.sink) (g.K.Sink.sent c.send_report.new.sink) all
    c.loop-k.invariant.0 (rw same at sent))
    c.send_report.ensures.sends

pub returns-clause-part : goal.returns-clause-part
returns-clause-part g c =
    let all : length c.args.script.now ≤ c.loop-k.k = omega (arith, c.loop-k-test.false, c.len-k-end.ensures) in
    let same = c.system-2.ensures in
    on_err_weaker c.send_report.result
    (λ sent.
    part-session c.args.system c.args.script.now c.loop-k.k c.loop-k.session (g.K.Sink.sent c.args.sink.now) (g.K.Sink.sent c.loop-k.sink) (g.K.Sink.sent c.send_report.new.sink) all
    c.loop-k.invariant.0 (rw same at sent))
    c.send_report.ensures.part
