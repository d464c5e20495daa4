use Rattle.std.proofs.Common.{◌≡◌, length}
use Rattle.std.specs.Prelude.{vec_capacity}
use Rattle.cpa_local.proofs.scratch.Scratch.with_room.Given as goal

abbrev pub invariant-loop : goal.invariant-loop
invariant-loop l = record {
  inputs : length l.inputs.items ≡ l.counter;
  input_room : vec_capacity l.inputs ≡ l.tasks;
}
