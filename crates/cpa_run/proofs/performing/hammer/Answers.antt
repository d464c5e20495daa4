use Rattle.cpa_run.proofs.MadeLaws.{hammered-at}
use Rattle.cpa_run.proofs.performing.hammer.Goals as goal

pub returns-clause-answer : goal.returns-clause-answer
returns-clause-answer g c =
    rw (c.in_ok-text.ensures, c.in_ok-seen.ensures.value)
    (hammered-at c.args.system.now c.args.number c.args.traces c.in_ok-bounds.bounds c.has_rules.ensures c.in_ok-bounds.ensures.least)
