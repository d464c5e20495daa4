use Rattle.cpa_run.proofs.BufferLaws.{buffered-at}
use Rattle.cpa_run.proofs.performing.buffers.Goals as goal

pub returns-clause-answer : goal.returns-clause-answer
returns-clause-answer g c =
    rw (c.in_ok-text.ensures, c.in_ok-peaks.ensures.peaks c.args.trace.now c.in_ok-outcome.ensures.run)
    (buffered-at c.args.system.now c.args.trace.now c.in_ok-bounds.bounds c.has_rules.ensures c.in_ok-bounds.ensures.least)
