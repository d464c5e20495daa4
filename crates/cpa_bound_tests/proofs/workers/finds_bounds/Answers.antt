use Rattle.std.proofs.Common.{arith}
use Rattle.cpa_bound_tests.proofs.workers.finds_bounds.Goals as goal

pub solve-requires-after_bounds : goal.solve-requires-after_bounds
solve-requires-after_bounds g c κs within =
    record {
      vector = c.in_ok-start.ensures.vector;
      below = c.in_ok-start.ensures.below;
      sound = c.in_ok-kept.ensures.sound c.in_ok-start.start;
      room = omega (arith, c.in_ok-trail.ensures.room, c.tasks.ensures.count);
    }
