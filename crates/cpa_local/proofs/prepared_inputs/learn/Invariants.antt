use Rattle.std.proofs.Common.{◌≡◌, ◌<◌, ℕ, true, false, length, get_or}
use Rattle.cpa_model.proofs.SystemLaws.{no_id}
use Rattle.cpa_local.specs.Inputs.{AreKnown}
use Rattle.cpa_local.proofs.prepared_inputs.learn.Given as goal

abbrev pub invariant-loop-task : goal.invariant-loop-task
invariant-loop-task l = record {
  long : length l.inputs.items ≡ length l.fn.inputs.items;
  flags : length l.known ≡ 8192;
  right : AreKnown l.system l.x l.known l.inputs.items;
  done : (k : ℕ) → k < l.task-index → get_or l.known (get_or l.task-items k no_id).0 false ≡ true;
}
