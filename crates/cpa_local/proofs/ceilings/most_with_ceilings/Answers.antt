use Rattle.std.proofs.Common.{ap, arith}
use Rattle.cpa_model.specs.declared.entries.Task.{Task}
use Rattle.cpa_model.specs.Locks.{lock_sections}
use Rattle.cpa_model.specs.SystemLists.{task_at}
use Rattle.cpa_local.proofs.LockLaws.{sections-small}
use Rattle.cpa_local.proofs.ceilings.most_with_ceilings.Goals as goal

pub returns-clause-in_range : goal.returns-clause-in_range
returns-clause-in_range c =
    let s = c.args.system.now in
    let j = c.args.lower.0 in
    let sections = sections-small c.priority.result (task_at s j).worst 0 (lock_sections s j) (omega arith) in
    let own = ap (λ (t : Task). t.worst) c.task-entry.ensures.value in
    omega (arith, c.requires.small, c.max.ensures, c.min.ensures, c.saturating_sub-region.ensures, c.most_with_sections.ensures, own, c.task-entry.ensures.rules.worst, sections)
