use Rattle.std.proofs.Common.{◌≤◌, ◌-◌, length}
use Rattle.cpa_phase.proofs.known.KnownWork.place_of.Given as goal

abbrev pub invariant-loop-low : goal.invariant-loop-low
invariant-loop-low l =
    record {
      order : l.low ≤ l.high;
      there : l.high ≤ length l.self.windows.items;
    }

abbrev pub decreases-loop-low : goal.decreases-loop-low
decreases-loop-low l = l.high - l.low
