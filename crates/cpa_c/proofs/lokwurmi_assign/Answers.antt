use Rattle.std.proofs.Common.{ℕ, List, [], codes, subst}
use Rattle.cpa_words.specs.Words.{Assign}
use Rattle.cpa_run.specs.Plan.{plan_for}
use Rattle.cpa_run.specs.Output.{IsAnswerTo}
use Rattle.cpa_memory.specs.Held.{held_of}
use Rattle.cpa_c.specs.Given.{Gives}
use Rattle.cpa_c.proofs.lokwurmi_assign.Goals as goal

pub returns : goal.returns
returns c = record {
  told = λ named enough.
      subst (λ (n : List ℕ). Gives (IsAnswerTo (plan_for (held_of c.args.system.now [] [] [] []) (Assign (codes "system") n))) c.answer.result c.args.out.now c.answer.new.out c.answer.new.used)
      c.in-Ok.ensures.cases.0 (c.answer.ensures.told enough);
  refused = λ no. absurd (no c.in-Ok.ensures.cases.1);
  wanting = λ short. c.answer.ensures.wanting short;
}
