use Rattle.std.proofs.Common.{◌∙◌, ap, arith}
use Rattle.cpa_model.specs.declared.entries.Task.{Task}
use Rattle.cpa_slack.proofs.SlackLaws.{longer-long, longer-rules, lengthened}
use Rattle.cpa_slack.proofs.search.lengthen.Goals as goal

pub set_exec-requires-clause-there : goal.set_exec-requires-clause-there
set_exec-requires-clause-there c =
    let known = c.requires.copy in
    rw known.1 (omega (arith, longer-long c.args.growth.now.system.now c.args.growth.now.task.0 known.0, c.args.growth.now.there))

pub set_exec-requires-clause-rules : goal.set_exec-requires-clause-rules
set_exec-requires-clause-rules c =
    let s = c.args.growth.now.system.now in
    rw (ap (λ (t : Task). t.best) c.task-entry.ensures.value, ap (λ (t : Task). t.worst) c.task-entry.ensures.value, lengthened s c.args.copy.now c.args.growth.now.task.0 c.args.ticks c.args.growth.now.there c.requires.copy)
    (longer-rules s c.args.growth.now.task.0 c.args.ticks c.has_rules.ensures c.args.growth.now.there (omega (arith, c.args.growth.now.in_range, c.requires.few)))

pub returns : goal.returns
returns c =
    c.set_exec.ensures
    ∙ (rw (ap (λ (t : Task). t.best) c.task-entry.ensures.value, ap (λ (t : Task). t.worst) c.task-entry.ensures.value)
    (lengthened c.args.growth.now.system.now c.args.copy.now c.args.growth.now.task.0 c.args.ticks c.args.growth.now.there c.requires.copy))
