use Rattle.std.proofs.Common.{refl}
use Rattle.cpa_edit.specs.Edited.{change}
use Rattle.cpa_edit.proofs.AllowedLaws.{named-offset}
use Rattle.cpa_edit.proofs.make_edits.make_offset.Goals as goal

pub source_named-id-requires : goal.source_named-id-requires
source_named-id-requires c = named-offset c.args.system.now c.args.name.now c.args.offset c.requires.allowed

pub set_offset-requires-clause-rules : goal.set_offset-requires-clause-rules
unfolding change
set_offset-requires-clause-rules c = rw (c.source_named-id.ensures.value) c.requires.rules

pub returns : goal.returns
unfolding change
returns c = rw (c.set_offset.ensures, c.source_named-id.ensures.value) refl
