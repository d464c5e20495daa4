use Rattle.std.proofs.Common.{refl}
use Rattle.cpa_edit.specs.Edited.{change}
use Rattle.cpa_edit.proofs.AllowedLaws.{named-remove}
use Rattle.cpa_edit.proofs.make_edits.make_removal.Goals as goal

pub task_named-id-requires : goal.task_named-id-requires
task_named-id-requires c = named-remove c.args.system.now c.args.task.now c.requires.allowed

pub remove_task-requires-clause-rules : goal.remove_task-requires-clause-rules
unfolding change
remove_task-requires-clause-rules c = rw (c.task_named-id.ensures.value) c.requires.rules

pub returns : goal.returns
unfolding change
returns c = rw (c.remove_task.ensures, c.task_named-id.ensures.value) refl
