use Rattle.std.proofs.Common.{◌≡◌, ◌∙◌, false, nat_lt, sym, arith}
use Rattle.cpa_sim.specs.Outcome.{end_of}
use Rattle.cpa_sim.proofs.SimulatorLaws.{end-within}
use Rattle.cpa_segments.proofs.TrackingLaws.{stop-end, stop-since}
use Rattle.cpa_segments.proofs.tracking.find_segment_end.Goals as goal

pub going-smaller : goal.going-smaller
going-smaller c = omega (arith, end-within c.going.tracker.replay.system c.going.tracker.replay.trace)

pub returns-then-not-goes_on-clause-stop : goal.returns-then-not-goes_on-clause-stop
returns-then-not-goes_on-clause-stop c =
    let f = c.going.tracker in
    let inv = c.going.invariant in
    let off : nat_lt c.going.tracker.replay.time (end_of c.going.tracker.replay.system c.going.tracker.replay.trace) ≡ false = cc in
    c.time.ensures ∙ stop-end c.args.tracker.now.replay.system c.args.tracker.now.replay.trace c.args.res.0 c.args.job c.args.start f inv.ahead inv.past inv.each c.ran.result c.ran.ensures
    (sym c.is_job.ensures ∙ c.going-test.true) off

pub returns-clause-stop : goal.returns-clause-stop
returns-clause-stop c =
    let inv = c.going.invariant in
    stop-since c.args.tracker.now.replay.system c.args.tracker.now.replay.trace c.args.res.0 c.args.job c.args.start c.going.tracker inv.ahead inv.past inv.each c.ran.result c.ran.ensures
    (sym c.is_job.ensures ∙ c.going-test.false) c.requires.gets
