use Rattle.std.proofs.Common.{sym, subst, arith}
use Rattle.cpa_trace.specs.Trace.{times_of}
use Rattle.cpa_sim.specs.SourceCursors.{IsAhead}
use Rattle.cpa_sim.proofs.CursorLaws.{next-ahead}
use Rattle.cpa_sim.proofs.source_cursors.next_time.Goals as goal

pub returns-then-next-events-clause-later : goal.returns-then-next-events-clause-later
returns-then-next-events-clause-later c = omega (arith, c.requires.passed.from c.args.next (omega arith) (omega arith), c.time.ensures)

pub returns-then-next-events-clause-ahead : goal.returns-then-next-events-clause-ahead
returns-then-next-events-clause-ahead c =
    subst (λ t. IsAhead (times_of c.args.trace.now c.args.source.0) t c.args.next) (sym c.time.ensures)
    (next-ahead c.args.trace.now c.events.ensures.rules c.args.source.0 c.args.now c.args.next c.requires.passed (omega arith))
