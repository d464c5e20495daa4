use Rattle.std.proofs.Common.{◌≡◌, ◌≤◌}
use Rattle.std.specs.Prelude.{filter}
use Rattle.std.specs.List.{range_with_len}
use Rattle.cpa_units.specs.declared.limits.TheConstants.{MAX_EXECUTION}
use Rattle.cpa_units.specs.Sets.{holds}
use Rattle.cpa_local.proofs.BlockingLaws.{greatest_in}
use Rattle.cpa_assign.specs.Placing.{is_below, placed_between, without}
use Rattle.cpa_assign.proofs.below.blocking.Given as goal

abbrev pub invariant-loop-k : goal.invariant-loop-k
invariant-loop-k l = record {
  found : l.most ≡ greatest_in (placed_between l.system l.fn.res.0 (without (holds l.free) l.fn.task.0) l.fn.task.0 l.fn.kind) (filter (is_below l.system l.fn.res.0 (without (holds l.free) l.fn.task.0) l.fn.task.0) (range_with_len 0 l.k));
  small : l.most ≤ MAX_EXECUTION;
}
