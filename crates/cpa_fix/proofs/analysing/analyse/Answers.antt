use Rattle.std.proofs.Common.{sym}
use Rattle.cpa_fix.proofs.RoundLaws.{sound-brought_up, inputs-apart}
use Rattle.cpa_fix.proofs.analysing.analyse.Goals as goal

pub returns-in_ok-reading-2-clause-sound : goal.returns-in_ok-reading-2-clause-sound
returns-in_ok-reading-2-clause-sound c =
    let raised = c.in_ok-raise-2.ensures.raised in
    rw c.in_ok-reading-2.ensures
    (sound-brought_up c.args.system.now c.args.res.0 c.args.x.now c.raise-else-has_feedback.new.x raised.risen.vector c.if-has_feedback.ensures
    (λ i off. sym (raised.others i off)) record { vector = c.requires.start.vector; below = raised.risen.up; answered = raised.answered })

pub raise-requires-clause-apart : goal.raise-requires-clause-apart
raise-requires-clause-apart c = inputs-apart c.args.system.now c.args.res.0 c.has_cyclic_chain-back.result c.has_cyclic_chain-back.ensures

pub raise-requires-else-has_feedback-clause-apart : goal.raise-requires-else-has_feedback-clause-apart
raise-requires-else-has_feedback-clause-apart c = inputs-apart c.args.system.now c.args.res.0 c.has_cyclic_chain-back.result c.has_cyclic_chain-back.ensures
