use Rattle.std.proofs.Common.{◌≤◌, subst}
use Rattle.cpa_model.specs.declared.entries.Task.{Task}
use Rattle.cpa_local.specs.Blocking.{blocking_between}
use Rattle.cpa_local.proofs.LockLaws.{between-small}
use Rattle.cpa_local.proofs.neighbours.most_blocking.Goals as goal

pub returns-else-is_empty : goal.returns-else-is_empty
returns-else-is_empty c s i j same = subst (λ (t : Task). blocking_between s c.args.kind i j ≤ t.worst) same (between-small s c.args.kind i j)
