use Rattle.std.proofs.Common.{sym, arith}
use Rattle.cpa_phase.proofs.PhaseLaws.{earliest_arrival-zero, earliest_arrival-by_gaps}
use Rattle.cpa_phase.proofs.phased.Phased.earliest_arrival.Goals as goal

pub returns-then-n-eq0 : goal.returns-then-n-eq0
returns-then-n-eq0 c = rw c.if-n-eq0.true (sym (earliest_arrival-zero c.args.self.now.stream c.args.self.now.phase))

pub returns : goal.returns
returns c = let e = earliest_arrival-by_gaps c.args.self.now.stream c.args.self.now.phase c.args.n (omega arith) in cc
