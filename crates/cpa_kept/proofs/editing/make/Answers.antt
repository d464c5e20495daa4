use Rattle.std.proofs.Common.{Err, ap}
use Rattle.cpa_edit.specs.Edited.{edited}
use Rattle.cpa_kept.proofs.MadeLaws.{refused-made}
use Rattle.cpa_kept.proofs.editing.make.Goals as goal

pub returns-in-Err-Refused-clause-answers : goal.returns-in-Err-Refused-clause-answers
returns-in-Err-Refused-clause-answers c =
    let is = (c.in-Err-Refused.ensures.refused c.in-Err-Refused.number).0 (ap Err c.in-Err-Refused.field-0-is) in
    refused-made c.args.session.now c.edit.new.self c.args.line (edited c.args.session.now c.args.edit.now) c.in-Err-Refused.number c.in_ok-edit_line-in-Err-Refused.field-0.items is c.in-Err-Refused.ensures.unchanged
    c.in_ok-edit_line-in-Err-Refused.ensures
