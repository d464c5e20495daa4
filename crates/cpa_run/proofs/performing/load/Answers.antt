use Rattle.std.proofs.Common.{refl}
use Rattle.cpa_gen.specs.MadeSystems.{made_system}
use Rattle.cpa_run.proofs.MadeLaws.{summary-at}
use Rattle.cpa_run.proofs.performing.load.Goals as goal

pub returns-clause-answer : goal.returns-clause-answer
returns-clause-answer g c =
    rw (c.verdict.ensures.value, c.in_ok-text.ensures)
    (summary-at c.args.number c.args.size c.in_ok-system.system (made_system c.args.number c.args.size) c.in_ok-bounds.bounds c.requires refl c.in_ok-system.ensures c.in_ok-bounds.ensures.least)
