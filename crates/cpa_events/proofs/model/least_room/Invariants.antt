use Rattle.std.proofs.Common.{ℕ, ◌-◌, ◌+◌, ◌^◌, ◌<◌, ◌≤◌}
use Rattle.cpa_events.specs.Events.{eta_plus}
use Rattle.cpa_events.proofs.model.least_room.Given as goal

-- the least time lies between the two
abbrev pub invariant-loop-low : goal.invariant-loop-low
invariant-loop-low l =
    record {
      order : l.low ≤ l.high;
      small : l.high < 2 ^ 63;
      room : l.n ≤ eta_plus l.streams (l.high + 1);
      none : (v : ℕ) → v < l.low → eta_plus l.streams (v + 1) < l.n;
    }

abbrev pub decreases-loop-low : goal.decreases-loop-low
decreases-loop-low l = l.high - l.low
