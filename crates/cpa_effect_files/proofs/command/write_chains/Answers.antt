use Rattle.std.proofs.Common.{map, string_bytes, refl}
use Rattle.cpa_call.specs.Plans.{Do}
use Rattle.cpa_call.proofs.CallLaws.{verdict-answer, meets-one-work, meets-one-end}
use Rattle.cpa_effect_files.specs.Calls.{chains_of, plan_of, answer_to}
use Rattle.cpa_effect_files.proofs.command.write_chains.Goals as goal

pub returns-in-Ok : goal.returns-in-Ok
returns-in-Ok g c =
    let plan = plan_of (map string_bytes c.args.words.now) (g.F.Files.held c.args.files.now) in
    let value = c.as_slice.ensures.value in
    let judged = c.judge_listed.ensures in
    meets-one-work answer_to _ _ _ plan (Do (chains_of c.in-Ok.listed)) _ _ c.status_of.ensures c.in-Ok.ensures.planned
    (verdict-answer _ _ _ _ _ (rw value at judged.text) (rw value at judged.status) judged.small c.send_reply.ensures)

pub returns-in-Err : goal.returns-in-Err
returns-in-Err g c =
    let plan = plan_of (map string_bytes c.args.words.now) (g.F.Files.held c.args.files.now) in
    let end = c.in-Err.ensures in
    meets-one-end answer_to _ _ _ plan _ _ _ c.status_of-in-Err.ensures (λ status line. refl) (λ u. u.rose) end.ended end.status end.unread c.send_end.ensures
