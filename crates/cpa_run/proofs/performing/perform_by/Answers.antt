use Rattle.std.proofs.lemmas.Result.{on_err_weaker}
use Rattle.std.proofs.Common.{inr}
use Rattle.cpa_call.proofs.CallLaws.{reply-answer}
use Rattle.cpa_run.proofs.performing.perform_by.Goals as goal

pub returns-in-Session : goal.returns-in-Session
returns-in-Session g c =
    let said = c.run_session.ensures in
    rw c.in-Session.is (record { sends = said.sends; status = said.status; part = on_err_weaker c.run_session.result (λ part. inr part) said.part; failed = said.failed })

pub returns-in-Analyse : goal.returns-in-Analyse
returns-in-Analyse g c = rw c.in-Analyse.is (reply-answer _ _ _ _ c.analyse.ensures.answer c.analyse.ensures.status c.send_reply.ensures)

pub returns-in-Simulate : goal.returns-in-Simulate
returns-in-Simulate g c = rw c.in-Simulate.is (reply-answer _ _ _ _ c.simulate.ensures.answer c.simulate.ensures.status c.send_reply-in-Simulate.ensures)

pub returns-in-Generate : goal.returns-in-Generate
returns-in-Generate g c = rw c.in-Generate.is (reply-answer _ _ _ _ c.generate.ensures.answer c.generate.ensures.status c.send_reply-in-Generate.ensures)

pub returns-in-Load : goal.returns-in-Load
returns-in-Load g c = rw c.in-Load.is (reply-answer _ _ _ _ c.load.ensures.answer c.load.ensures.status c.send_reply-in-Load.ensures)

pub returns-in-Hammer : goal.returns-in-Hammer
returns-in-Hammer g c = rw c.in-Hammer.is (reply-answer _ _ _ _ c.hammer_one_by_one.ensures.answer c.hammer_one_by_one.ensures.status c.send_reply-in-Hammer.ensures)

pub returns-in-Assign : goal.returns-in-Assign
returns-in-Assign g c = rw c.in-Assign.is (reply-answer _ _ _ _ c.assign.ensures.answer c.assign.ensures.status c.send_reply-in-Assign.ensures)

pub returns-in-Slack : goal.returns-in-Slack
returns-in-Slack g c = rw c.in-Slack.is (reply-answer _ _ _ _ c.slack.ensures.answer c.slack.ensures.status c.send_reply-in-Slack.ensures)

pub returns-in-Buffers : goal.returns-in-Buffers
returns-in-Buffers g c = rw c.in-Buffers.is (reply-answer _ _ _ _ c.buffers.ensures.answer c.buffers.ensures.status c.send_reply-in-Buffers.ensures)

pub returns-in-Audit : goal.returns-in-Audit
returns-in-Audit g c = rw c.in-Audit.is (reply-answer _ _ _ _ c.audit.ensures.answer c.audit.ensures.status c.send_reply-in-Audit.ensures)
