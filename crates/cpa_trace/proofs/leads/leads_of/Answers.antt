use Rattle.std.proofs.Common.{◌≡◌, arith}
use Rattle.cpa_trace.proofs.LeftLaws.{allows-fits}
use Rattle.cpa_trace.proofs.leads.leads_of.Goals as goal

pub returns-clause-these : goal.returns-clause-these
returns-clause-these c =
    let all : c.loop-n.n ≡ c.args.count = omega arith in
    rw (c.from-period.ensures, c.from-jitter.ensures, c.from.ensures, c.requires.offset)
    (allows-fits c.args.source.now c.args.times.now c.loop-n.begin c.loop-n.end c.args.count c.requires.some
    (rw all at c.loop-n.invariant.begin) (rw all at c.loop-n.invariant.end) (omega (arith, c.from-jitter.ensures, c.if-jitter-spread.false)))
