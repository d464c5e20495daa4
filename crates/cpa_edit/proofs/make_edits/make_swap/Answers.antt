use Rattle.std.proofs.Common.{refl}
use Rattle.cpa_edit.specs.Edited.{change}
use Rattle.cpa_edit.proofs.AllowedLaws.{named-swap}
use Rattle.cpa_edit.proofs.make_edits.make_swap.Goals as goal

pub task_named-one-requires : goal.task_named-one-requires
task_named-one-requires c = (named-swap c.args.system.now c.args.first.now c.args.second.now c.requires.allowed).0

pub task_named-other-requires : goal.task_named-other-requires
task_named-other-requires c = (named-swap c.args.system.now c.args.first.now c.args.second.now c.requires.allowed).1

pub swap_turns-requires-clause-rules : goal.swap_turns-requires-clause-rules
unfolding change
swap_turns-requires-clause-rules c = rw (c.task_named-one.ensures.value, c.task_named-other.ensures.value) c.requires.rules

pub returns : goal.returns
unfolding change
returns c = rw (c.swap_turns.ensures, c.task_named-one.ensures.value, c.task_named-other.ensures.value) refl
