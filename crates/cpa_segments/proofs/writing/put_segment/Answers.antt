use Rattle.std.proofs.Common.{◌≡◌, ◌∙◌, [], ap, subst}
use Rattle.std.specs.Option.{option_to_list}
use Rattle.std.proofs.lemmas.Result.{on_ok_weaker, on_err_weaker}
use Rattle.cpa_io.specs.Causes.{SentPart}
use Rattle.cpa_segments.specs.Rows.{row_text, schedule_text}
use Rattle.cpa_segments.proofs.RowLaws.{rows-none, rows-one}
use Rattle.cpa_segments.proofs.WrittenLaws.{written-none, written-row}
use Rattle.cpa_segments.proofs.writing.put_segment.Goals as goal

pub returns-in-None-clause-written : goal.returns-in-None-clause-written
returns-in-None-clause-written g c =
    let none : schedule_text c.args.system.now (option_to_list c.args.segment) ≡ [] = ap (λ o. schedule_text c.args.system.now (option_to_list o)) c.in-None.is ∙ rows-none c.args.system.now in
    rw none (written-none (g.K.Sink.sent c.args.sink.now) c.args.unsent.now.items)

pub returns-in_ok-put_row-in-Some-clause-written : goal.returns-in_ok-put_row-in-Some-clause-written
returns-in_ok-put_row-in-Some-clause-written g c =
    let one : schedule_text c.args.system.now (option_to_list c.args.segment) ≡ row_text c.args.system.now c.in-Some.segment =
    ap (λ o. schedule_text c.args.system.now (option_to_list o)) c.in-Some.is ∙ rows-one c.args.system.now c.in-Some.segment in
    on_ok_weaker c.send_full.result
    (λ h. rw one (written-row (g.K.Sink.sent c.args.sink.now) (g.K.Sink.sent c.send_full.new.sink) c.args.unsent.now.items c.put_row.new.unsent.items c.send_full.new.unsent.items (row_text c.args.system.now c.in-Some.segment) c.in_ok-put_row-in-Some.ensures h))
    c.send_full.ensures.written

pub returns-in_ok-put_row-in-Some-clause-part : goal.returns-in_ok-put_row-in-Some-clause-part
returns-in_ok-put_row-in-Some-clause-part g c =
    let one : schedule_text c.args.system.now (option_to_list c.args.segment) ≡ row_text c.args.system.now c.in-Some.segment =
    ap (λ o. schedule_text c.args.system.now (option_to_list o)) c.in-Some.is ∙ rows-one c.args.system.now c.in-Some.segment in
    on_err_weaker c.send_full.result
    (λ h. rw one (subst (SentPart (g.K.Sink.sent c.args.sink.now) (g.K.Sink.sent c.send_full.new.sink)) c.in_ok-put_row-in-Some.ensures h))
    c.send_full.ensures.part
