use Rattle.std.proofs.Common.{sym, arith}
use Rattle.cpa_events.proofs.StreamLaws.{stream_delta_minus-zero, stream_delta_minus-small}
use Rattle.cpa_events.proofs.CurveLaws.{stream_delta_minus-by_gaps}
use Rattle.cpa_events.proofs.stream.Stream.delta_minus.Goals as goal

pub returns-then-n-eq0-clause-value : goal.returns-then-n-eq0-clause-value
returns-then-n-eq0-clause-value c = rw c.if-n-eq0.true (sym (stream_delta_minus-zero c.args.self.now))

pub returns-clause-value : goal.returns-clause-value
returns-clause-value c = let e = stream_delta_minus-by_gaps c.args.self.now c.args.n (omega arith) in cc

pub returns-clause-small : goal.returns-clause-small
returns-clause-small c =
    let e = stream_delta_minus-by_gaps c.args.self.now c.args.n (omega arith) in
    let small = stream_delta_minus-small c.args.self.now c.args.n c.requires.stream c.requires.events in
    omega (arith, c.max.ensures, c.saturating_sub.ensures)
