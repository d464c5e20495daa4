use Rattle.std.proofs.Common.{◌≡◌, ◌≤◌, take}
use Rattle.std.specs.Prelude.{count_by}
use Rattle.cpa_local.specs.Paths.{is_missed}
use Rattle.cpa_local.proofs.paths.count_missed.Given as goal

abbrev pub invariant-loop-k : goal.invariant-loop-k
invariant-loop-k l = record {
  count : l.count ≡ count_by (is_missed l.x) (take l.k l.system.paths);
  small : l.count ≤ l.k;
}
