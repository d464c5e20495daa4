use Rattle.std.proofs.Common.{arith}
use Rattle.cpa_segments.proofs.TrackingLaws.{all-push}
use Rattle.cpa_segments.proofs.writing.Writing.start.Goals as goal

pub loop-k-preserved : goal.loop-k-preserved
loop-k-preserved c = record {
  long = omega (arith, c.in_ok-push.ensures.len, c.loop-k.invariant.long);
  tracking = all-push c.args.system.now c.args.trace.now c.loop-k.trackers.items c.push.new.self.items c.in_ok-tracker.tracker c.loop-k.invariant.tracking c.in_ok-push.ensures.items c.in_ok-tracker.ensures;
}
