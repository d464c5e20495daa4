use Rattle.std.proofs.Common.{◌^◌, ◌≤◌, ℕ, ◌<◌, slice_index_or}
use Rattle.cpa_phase.specs.declared.placed.Placed.{Placed}
use Rattle.cpa_phase.specs.Clocks.{clock_work, IsMostFromCandidates}
use Rattle.cpa_phase.proofs.clock.clock_work.Given as goal

abbrev pub invariant-loop-stream : goal.invariant-loop-stream
invariant-loop-stream l =
    record {
      looked_at : (k : ℕ) (d : Placed) → k < l.stream-index → IsMostFromCandidates l.clock l.window (slice_index_or l.clock.streams.items k d) l.most;
      most : l.most ≤ clock_work l.clock.streams.items l.clock.cycle l.window;
      small : l.most ≤ 2 ^ 75;
    }
