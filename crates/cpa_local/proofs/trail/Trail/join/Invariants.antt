use Rattle.std.proofs.Common.{◌≡◌, length}
use Rattle.cpa_local.proofs.TrailLaws.{IsJoined}
use Rattle.cpa_local.proofs.trail.Trail.join.Given as goal

abbrev pub invariant-loop-task : goal.invariant-loop-task
invariant-loop-task l = record {
  marks : IsJoined l.initial.self-inside.marks l.other-inside.marks l.self-inside.marks l.task;
  long : length l.self-inside.marks ≡ 8192;
  work : l.self-inside.work ≡ l.initial.self-inside.work;
}
