use Rattle.std.proofs.Common.{refl, arith}
use Rattle.cpa_edit.specs.Edited.{change}
use Rattle.cpa_edit.proofs.AllowedLaws.{named-priority, small-priority}
use Rattle.cpa_edit.proofs.make_edits.make_priority.Goals as goal

pub task_named-id-requires : goal.task_named-id-requires
task_named-id-requires c = named-priority c.args.system.now c.args.task.now c.args.number c.requires.allowed

pub overflow_cast-number : goal.overflow_cast-number
overflow_cast-number c = let small = small-priority c.args.system.now c.args.task.now c.args.number c.requires.allowed in omega arith

pub set_turn-requires-clause-rules : goal.set_turn-requires-clause-rules
unfolding change
set_turn-requires-clause-rules c = rw (c.task_named-id.ensures.value) c.requires.rules

pub returns : goal.returns
unfolding change
returns c = rw (c.set_turn.ensures, c.task_named-id.ensures.value) refl
