use Rattle.std.proofs.Common.{◌^◌, ◌≤◌, ℕ, ◌+◌, ◌-◌, ◌<◌}
use Rattle.cpa_phase.specs.Streams.{work_from, IsCandidate}
use Rattle.cpa_phase.specs.Clocks.{clock_work}
use Rattle.cpa_phase.proofs.clock.most_from_candidates.Given as goal

abbrev pub invariant-loop-x : goal.invariant-loop-x
invariant-loop-x l =
    record {
      start : IsCandidate l.stream l.x;
      some : 0 < l.x;
      near : l.x ≤ l.clock.cycle + l.stream.stream.period;
      more : l.before ≤ l.most;
      looked_at : (y : ℕ) → 0 < y → y < l.x → y ≤ l.clock.cycle → IsCandidate l.stream y → work_from l.clock.streams.items y l.window ≤ l.most;
      most : l.most ≤ clock_work l.clock.streams.items l.clock.cycle l.window;
      small : l.most ≤ 2 ^ 75;
    }

abbrev pub decreases-loop-x : goal.decreases-loop-x
decreases-loop-x l = l.clock.cycle + 1 - l.x
