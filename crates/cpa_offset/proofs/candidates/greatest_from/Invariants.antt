use Rattle.std.proofs.Common.{◌≤◌, ℕ, ◌+◌, ◌-◌, ◌<◌}
use Rattle.cpa_units.specs.Bounds.{IsAtMost, greatest_of}
use Rattle.cpa_phase.specs.Known.{AreKnown}
use Rattle.cpa_phase.specs.Streams.{IsCandidate}
use Rattle.cpa_offset.proofs.candidates.greatest_from.Given as goal

abbrev pub invariant-loop-x : goal.invariant-loop-x
invariant-loop-x g l =
    record {
      start : IsCandidate l.stream l.x;
      some : 0 < l.x;
      near : l.x ≤ l.cycle + l.stream.stream.period;
      more : IsAtMost l.fn.before l.greatest;
      looked_at : (y : ℕ) → 0 < y → y < l.x → y ≤ l.cycle → IsCandidate l.stream y → IsAtMost (g.B.FromMoment.bound l.bounds y) l.greatest;
      known : AreKnown (g.B.FromMoment.clocks l.bounds) l.known;
      most : IsAtMost l.greatest (greatest_of (g.B.FromMoment.bound l.bounds) l.cycle);
    }

abbrev pub decreases-loop-x : goal.decreases-loop-x
decreases-loop-x g l = l.cycle + 1 - l.x
