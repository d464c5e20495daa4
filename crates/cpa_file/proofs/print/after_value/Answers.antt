use Rattle.std.proofs.Common.{arith}
use Rattle.std.proofs.lemmas.Grind.{common_steps}
use Rattle.cpa_file.proofs.print.after_value.Goals as goal

pub returns-in_ok-text_value : goal.returns-in_ok-text_value
returns-in_ok-text_value c = grind (arith, common_steps)
