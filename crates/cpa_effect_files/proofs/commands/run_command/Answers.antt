use Rattle.cpa_call.proofs.CallLaws.{meets-refused}
use Rattle.cpa_effect_files.proofs.commands.run_command.Goals as goal

pub returns-in-Unknown : goal.returns-in-Unknown
returns-in-Unknown g c = rw c.in-Unknown.is (meets-refused _ _ _ _ _ c.status_of.ensures c.refuse_words.ensures.ended c.refuse_words.ensures.status c.send_end.ensures)
