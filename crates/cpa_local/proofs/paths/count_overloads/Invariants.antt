use Rattle.std.proofs.Common.{◌≡◌, ◌≤◌, take}
use Rattle.std.specs.Prelude.{count_by}
use Rattle.cpa_local.specs.Paths.{is_overload}
use Rattle.cpa_local.proofs.paths.count_overloads.Given as goal

abbrev pub invariant-loop-k : goal.invariant-loop-k
invariant-loop-k l = record {
  count : l.count ≡ count_by is_overload (take l.k l.x);
  small : l.count ≤ l.k;
}
