use Rattle.cpa_call.proofs.CallLaws.{reply-answer}
use Rattle.cpa_run.proofs.performing.perform.Goals as goal

pub returns-in-Hammer : goal.returns-in-Hammer
returns-in-Hammer g c = rw c.in-Hammer.is (reply-answer _ _ _ _ c.hammer.ensures.answer c.hammer.ensures.status c.send_reply.ensures)
