use Rattle.std.proofs.Common.{refl}
use Rattle.cpa_edit.specs.declared.edit.Edit.TheVariants.{Exec}
use Rattle.cpa_edit.specs.Edited.{change}
use Rattle.cpa_edit.proofs.AllowedLaws.{named-exec}
use Rattle.cpa_edit.proofs.EditLaws.{allowed, change-kept}
use Rattle.cpa_edit.proofs.make_edits.make_exec.Goals as goal

pub task_named-id-requires : goal.task_named-id-requires
task_named-id-requires c = named-exec c.args.system.now c.args.task.now c.args.best c.args.worst c.requires

pub set_exec-requires-clause-rules : goal.set_exec-requires-clause-rules
unfolding change
set_exec-requires-clause-rules c =
    rw (c.task_named-id.ensures.value)
    (change-kept c.args.system.now c.has_rules.ensures (Exec c.args.task.now c.args.best c.args.worst) tt (allowed c.args.system.now (Exec c.args.task.now c.args.best c.args.worst) c.requires))

pub returns : goal.returns
unfolding change
returns c = rw (c.set_exec.ensures, c.task_named-id.ensures.value) refl
