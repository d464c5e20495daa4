use Rattle.cpa_fix.proofs.SolveLaws.{OnFalse-weaker, clean_from_agree}
use Rattle.cpa_fix.proofs.solving.is_stale.Goals as goal

pub returns-in-Some-clause-no : goal.returns-in-Some-clause-no
returns-in-Some-clause-no c =
    OnFalse-weaker c.differs.result
    (clean_from_agree c.args.system.now c.args.readings.now c.args.x.now c.args.res.0 c.in-Some.reading.now c.requires.sound c.in-Some.ensures)
    c.differs.ensures.no
