use Rattle.std.proofs.Common.{map, string_bytes, refl, arith}
use Rattle.cpa_call.specs.Plans.{Do}
use Rattle.cpa_call.proofs.CallLaws.{text-answer, meets-one-work, meets-one-end}
use Rattle.cpa_segments.specs.Calls.{plan_of, answer_to}
use Rattle.cpa_segments.proofs.command.write_schedule.Goals as goal

pub returns-in-Ok : goal.returns-in-Ok
returns-in-Ok g c =
    let plan = plan_of (map string_bytes c.args.words.now) (g.F.Files.held c.args.files.now) in
    let said = c.send_schedule.ensures in
    meets-one-work answer_to _ _ _ plan (Do c.in-Ok.traced) _ _ c.status_of.ensures c.in-Ok.ensures.planned
    (text-answer _ 0 _ _ _ refl (omega arith, omega arith, omega arith) (record { sent = said.sent; told = said.told; part = said.part; rises = said.rises; failed = said.failed }))

pub returns-in-Err : goal.returns-in-Err
returns-in-Err g c =
    let plan = plan_of (map string_bytes c.args.words.now) (g.F.Files.held c.args.files.now) in
    let end = c.in-Err.ensures in
    meets-one-end answer_to _ _ _ plan _ _ _ c.status_of-in-Err.ensures (λ status line. refl) (λ u. u.rose) end.ended end.status end.unread c.send_end.ensures
