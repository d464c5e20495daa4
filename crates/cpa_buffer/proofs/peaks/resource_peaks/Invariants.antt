use Rattle.std.proofs.Common.{◌≡◌, map, length}
use Rattle.std.specs.List.{range_with_len}
use Rattle.cpa_trace.specs.Trace.{TraceLists}
use Rattle.cpa_sim.specs.Outcome.{outcome_of}
use Rattle.cpa_buffer.specs.Buffers.{peak_on}
use Rattle.cpa_buffer.proofs.peaks.resource_peaks.Given as goal

abbrev pub invariant-loop-k : goal.invariant-loop-k
invariant-loop-k l = record {
  peaks : (tr : TraceLists) → l.outcome ≡ outcome_of l.system tr → l.peaks.items ≡ map (peak_on l.system tr) (range_with_len 0 l.k);
  count : length l.peaks.items ≡ l.k;
}
