use Rattle.std.proofs.Common.{arith}
use Rattle.cpa_units.specs.Sets.{holds}
use Rattle.cpa_assign.specs.Placing.{without}
use Rattle.cpa_assign.proofs.BelowLaws.{sections-small}
use Rattle.cpa_assign.proofs.below.most_with_task.Goals as goal

pub returns-in-Ceiling-clause-in_range : goal.returns-in-Ceiling-clause-in_range
returns-in-Ceiling-clause-in_range c =
    let entry = c.task-entry.result.now in
    let sections = sections-small c.args.system.now c.args.res.0 (without (holds c.args.free.now) c.args.task.0) c.args.task.0 entry.worst 0 entry.locks (omega arith) in
    omega (arith, c.requires.small, c.max-longest.ensures, c.blocking_by.ensures.in_range, c.most_with_sections.ensures, c.task-entry.ensures.rules.worst, sections)
