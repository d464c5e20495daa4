use Rattle.std.proofs.Common.{Some, None}
use Rattle.std.proofs.lemmas.List.{set-set}
use Rattle.cpa_fix.proofs.RoundLaws.{round-of_one}
use Rattle.cpa_fix.proofs.one_by_one.round_of_one.Goals as goal

pub returns-clause-done : goal.returns-clause-done
returns-clause-done c =
    let reading = c.in_ok-reading.reading in
    rw (c.put.ensures, c.take-old.ensures.left, set-set c.args.readings.now c.args.res.0 None (Some reading))
    (round-of_one c.args.system.now c.args.res.0 reading.seen c.args.x.now c.analyse.new.x c.args.readings.now c.requires.in_range c.requires.start.sound
    c.analyse.ensures.risen.up c.in_ok-reading.ensures.raised.others c.in_ok-reading.ensures.sound c.in_ok-reading.ensures.up)
