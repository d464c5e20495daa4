use Rattle.std.proofs.Common.{refl}
use Rattle.cpa_io.specs.Causes.{Rose}
use Rattle.cpa_words.specs.Commands.{asked}
use Rattle.cpa_call.specs.Calls.{loaded, sent}
use Rattle.cpa_call.specs.Plans.{Do}
use Rattle.cpa_call.proofs.CallLaws.{meets-work, meets-end}
use Rattle.cpa_run.specs.Plan.{plan_for}
use Rattle.cpa_run.specs.Output.{IsAnswerTo, IsNamed}
use Rattle.cpa_run.proofs.PlanLaws.{unread-rose}
use Rattle.cpa_run.proofs.on_one_thread.run_command.Goals as goal

pub returns-in-Ok : goal.returns-in-Ok
returns-in-Ok g c =
    let old = c.args.files.now in
    let new = c.plan_command.new.files in
    let files = loaded (g.F.Files.told old) (g.F.Files.faults old) (g.F.Files.faults new) (g.F.Files.last_failed new) in
    let sink = sent (g.K.Sink.sent c.args.sink.now) (g.K.Sink.sent c.perform_by.new.sink) (g.K.Sink.faults c.args.sink.now) (g.K.Sink.faults c.perform_by.new.sink) in
    let call = meets-work IsAnswerTo (λ before now. Unit {0}) (Rose files.before files.now) files sink (plan_for (g.F.Files.held old) (asked c.args.command)) tt (λ part. tt)
    (Do c.in-Ok.work) c.perform_by.result c.status_of.result c.status_of.ensures c.in-Ok.ensures.planned c.perform_by.ensures in
    record { answered = call.answered; unread = call.unread; unsent = call.unsent }

pub returns-in-Err : goal.returns-in-Err
returns-in-Err g c =
    let old = c.args.files.now in
    let new = c.plan_command.new.files in
    let files = loaded (g.F.Files.told old) (g.F.Files.faults old) (g.F.Files.faults new) (g.F.Files.last_failed new) in
    let sink = sent (g.K.Sink.sent c.args.sink.now) (g.K.Sink.sent c.send_end.new.sink) (g.K.Sink.faults c.args.sink.now) (g.K.Sink.faults c.send_end.new.sink) in
    let end = c.in-Err.ensures in
    let call = meets-end IsAnswerTo (λ before now. Unit {0}) (Rose files.before files.now) files sink (plan_for (g.F.Files.held old) (asked c.args.command)) tt (λ part. tt)
    c.in-Err.end c.send_end.result c.status_of-in-Err.result c.status_of-in-Err.ensures (λ status line. refl) (λ rose. rose) end.ended end.status (unread-rose (IsNamed files.told (g.F.Files.held old) (asked c.args.command)) files.before files.now files.last c.in-Err.end end.unread) c.send_end.ensures in
    record { answered = call.answered; unread = call.unread; unsent = call.unsent }
