use Rattle.std.proofs.Common.{◌≡◌, ◌*◌}
use Rattle.std.specs.List.{range_with_len}
use Rattle.cpa_units.specs.Bounds.{RespectsLimit, sum_bounds}
use Rattle.cpa_effects.specs.Bounds.{forward}
use Rattle.cpa_effects.proofs.bounds.latency_by.Given as goal

abbrev pub invariant-loop-k : goal.invariant-loop-k
invariant-loop-k l = record {
  sum : l.sum ≡ sum_bounds (forward l.reading l.system l.x l.tasks) (range_with_len 0 l.k);
  few : RespectsLimit (l.k * 5300000000) l.sum;
}
