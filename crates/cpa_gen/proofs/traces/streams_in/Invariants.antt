use Rattle.std.proofs.Common.{◌≡◌, ◌≤◌, ◌*◌, length}
use Rattle.std.specs.List.{sum_by, range_with_len}
use Rattle.cpa_model.specs.SystemLists.{streams_of}
use Rattle.cpa_gen.proofs.traces.streams_in.Given as goal

abbrev pub invariant-loop-i : goal.invariant-loop-i
invariant-loop-i l = record {
  sum : l.total ≡ sum_by (λ i. length (streams_of l.system i)) (range_with_len 0 l.i);
  few : l.total ≤ 32 * l.i;
}
