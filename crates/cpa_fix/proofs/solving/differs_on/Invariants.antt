use Rattle.std.proofs.Common.{◌≡◌, ℕ, ◌<◌, get_or}
use Rattle.cpa_units.specs.Bounds.{bound_of}
use Rattle.cpa_model.proofs.SystemLaws.{no_id}
use Rattle.cpa_fix.proofs.solving.differs_on.Given as goal

abbrev pub invariant-loop-task : goal.invariant-loop-task
invariant-loop-task l =
    (k : ℕ) → k < l.task-index → bound_of l.seen (get_or l.task-items k no_id).0 ≡ bound_of l.x (get_or l.task-items k no_id).0
