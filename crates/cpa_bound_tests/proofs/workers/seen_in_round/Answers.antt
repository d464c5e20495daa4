use Rattle.std.proofs.Common.{arith}
use Rattle.cpa_bound_tests.proofs.workers.seen_in_round.Goals as goal

pub round-requires-clause-start : goal.round-requires-clause-start
round-requires-clause-start g c =
    record {
      vector = c.in_ok-x.ensures.vector;
      below = c.in_ok-x.ensures.below;
      sound = c.in_ok-kept.ensures.sound c.in_ok-x.x;
      room = omega (arith, c.in_ok-trail.ensures.room, c.tasks.ensures.count);
    }
