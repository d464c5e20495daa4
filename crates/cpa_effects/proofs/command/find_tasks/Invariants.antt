use Rattle.std.proofs.Common.{◌≡◌, ◌<◌, ◌+◌, length, map, drop, string_bytes}
use Rattle.std.specs.Prelude.{All}
use Rattle.cpa_units.specs.declared.places.TaskId.{TaskId}
use Rattle.cpa_effects.specs.Calls.{chain_from, chain_by}
use Rattle.cpa_effects.proofs.command.find_tasks.Given as goal

abbrev pub invariant-loop-k : goal.invariant-loop-k
invariant-loop-k l = record {
  rest : chain_from l.system (l.k + 1) l.tasks.items (drop l.k (map string_bytes l.names)) ≡ chain_by l.system (map string_bytes l.names);
  long : length l.tasks.items ≡ l.k;
  there : All (λ (i : TaskId). i.0 < length l.system.tasks) l.tasks.items;
}
