use Rattle.std.proofs.Common.{map, string_bytes, refl}
use Rattle.cpa_call.specs.Plans.{Do}
use Rattle.cpa_call.proofs.CallLaws.{meets-work, meets-end}
use Rattle.cpa_run.specs.Plan.{plan_of}
use Rattle.cpa_run.specs.Output.{IsAnswerTo}
use Rattle.cpa_run.proofs.OutputLaws.{nothing-yet, some-part}
use Rattle.cpa_run.proofs.command.run_with.Goals as goal

pub returns-in-Ok : goal.returns-in-Ok
returns-in-Ok g c =
    let words = map string_bytes c.args.words.now in
    let held = g.F.Files.held c.args.files.now in
    meets-work IsAnswerTo _ _ _ _ (plan_of words held) (nothing-yet words held (g.K.Sink.sent c.args.sink.now)) (some-part (plan_of words held) _ _)
    (Do c.in-Ok.work) _ _ c.status_of.ensures c.in-Ok.ensures.planned c.perform.ensures

pub returns-in-Err : goal.returns-in-Err
returns-in-Err g c =
    let words = map string_bytes c.args.words.now in
    let held = g.F.Files.held c.args.files.now in
    let end = c.in-Err.ensures in
    meets-end IsAnswerTo _ _ _ _ (plan_of words held) (nothing-yet words held (g.K.Sink.sent c.args.sink.now)) (some-part (plan_of words held) _ _)
    _ _ _ c.status_of-in-Err.ensures (λ status line. refl) (λ u. u.rose) end.ended end.status end.unread c.send_end.ensures
