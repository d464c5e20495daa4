use Rattle.std.proofs.Common.{◌∙◌, ap}
use Rattle.cpa_sim.specs.SimText.{sim_text}
use Rattle.cpa_call.specs.Answers.{reply}
use Rattle.cpa_run.proofs.performing.simulate.Goals as goal

pub returns-clause-answer : goal.returns-clause-answer
returns-clause-answer c = ap (reply 0) (c.in_ok-text.ensures ∙ ap (sim_text c.args.system.now) c.in_ok-outcome.ensures.run)
