use Rattle.std.proofs.Common.{arith}
use Rattle.cpa_sim.proofs.CursorLaws.{last-decides}
use Rattle.cpa_sim.proofs.source_cursors.after_last.Goals as goal

pub returns-else-events-eq0-clause-value : goal.returns-else-events-eq0-clause-value
returns-else-events-eq0-clause-value c = λ t.
    last-decides c.args.trace.now c.events-events.ensures.rules c.args.source.0 c.events-events.result c.time.result c.events-events.ensures.count (omega arith) c.time.ensures t
