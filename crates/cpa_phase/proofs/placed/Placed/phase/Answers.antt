use Rattle.std.proofs.Common.{◌+◌, arith}
use Rattle.cpa_phase.proofs.UpToLaws.{up_to-near, up_to-far}
use Rattle.cpa_phase.proofs.placed.Placed.phase.Goals as goal

pub returns-then-from-to-clause-value : goal.returns-then-from-to-clause-value
returns-then-from-to-clause-value c =
    let p = c.args.self.now in
    rw (c.rest-to.ensures.value, c.rest-from.ensures.value) (up_to-near p.stream.period c.requires.placed.stream.regular (p.offset + p.stream.jitter) c.args.x (omega (arith, c.if-from-to.true, c.rest-to.ensures.value, c.rest-from.ensures.value)))

pub returns-else-from-to-clause-value : goal.returns-else-from-to-clause-value
returns-else-from-to-clause-value c =
    let p = c.args.self.now in
    rw (c.rest-to.ensures.value, c.rest-from.ensures.value) (up_to-far p.stream.period c.requires.placed.stream.regular (p.offset + p.stream.jitter) c.args.x (omega (arith, c.if-from-to.false, c.rest-to.ensures.value, c.rest-from.ensures.value)))
