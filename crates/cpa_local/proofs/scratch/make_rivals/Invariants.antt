use Rattle.std.proofs.Common.{◌≡◌, length}
use Rattle.std.specs.Prelude.{vec_capacity}
use Rattle.cpa_local.proofs.scratch.make_rivals.Given as goal

abbrev pub invariant-loop : goal.invariant-loop
invariant-loop l = record {
  many : length l.rivals.items ≡ l.counter;
  capacity : vec_capacity l.rivals ≡ vec_capacity l.fn.rivals;
}
