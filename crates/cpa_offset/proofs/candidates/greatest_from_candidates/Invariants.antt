use Rattle.std.proofs.Common.{◌<◌, ℕ, slice_index_or}
use Rattle.cpa_units.specs.Bounds.{IsAtMost, greatest_of}
use Rattle.cpa_phase.specs.Known.{AreKnown}
use Rattle.cpa_phase.specs.declared.placed.Placed.{Placed}
use Rattle.cpa_offset.specs.Candidates.{IsGreatestFromCandidates}
use Rattle.cpa_offset.proofs.candidates.greatest_from_candidates.Given as goal

abbrev pub invariant-loop-stream : goal.invariant-loop-stream
invariant-loop-stream g l =
    record {
      own : IsGreatestFromCandidates (g.B.FromMoment.bound l.bounds) l.cycle l.own l.greatest;
      looked_at : (k : ℕ) (d : Placed) → k < l.stream-index → IsGreatestFromCandidates (g.B.FromMoment.bound l.bounds) l.cycle (slice_index_or l.joint k d) l.greatest;
      known : AreKnown (g.B.FromMoment.clocks l.bounds) l.known;
      most : IsAtMost l.greatest (greatest_of (g.B.FromMoment.bound l.bounds) l.cycle);
    }
