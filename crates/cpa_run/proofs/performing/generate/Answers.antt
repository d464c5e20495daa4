use Rattle.std.proofs.Common.{◌∙◌, ap, refl}
use Rattle.cpa_file.specs.Reading.{Accepted}
use Rattle.cpa_run.proofs.performing.generate.Goals as goal

pub returns-clause-answer : goal.returns-clause-answer
returns-clause-answer c = record {
  status_is = refl;
  stands = c.in_ok-text.ensures.read_back ∙ ap Accepted c.in_ok-system.ensures;
  printed = rw (← c.in_ok-system.ensures) c.in_ok-text.ensures.printed;
}
