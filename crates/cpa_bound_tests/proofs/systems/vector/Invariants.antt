use Rattle.std.specs.Prelude.{◌≡◌, length}
use Rattle.cpa_bound_tests.proofs.systems.vector.Given as goal

abbrev pub invariant-loop-k : goal.invariant-loop-k
invariant-loop-k l = length l.x ≡ l.len
