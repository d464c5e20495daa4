use Rattle.std.proofs.Common.{ℕ, ◌<◌, get_or}
use Rattle.cpa_model.proofs.SystemLaws.{no_id}
use Rattle.cpa_depend.specs.Cone.{HasEarlierOn}
use Rattle.cpa_depend.proofs.chains.has_cyclic_chain.Given as goal

abbrev pub invariant-loop-task : goal.invariant-loop-task
invariant-loop-task l = (k : ℕ) → k < l.task-index → HasEarlierOn l.system (get_or l.task-items k no_id).0 l.fn.res.0 → ⊥
