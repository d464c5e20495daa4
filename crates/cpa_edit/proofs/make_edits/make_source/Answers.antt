use Rattle.std.proofs.Common.{refl}
use Rattle.cpa_edit.specs.Edited.{change}
use Rattle.cpa_edit.proofs.AllowedLaws.{named-source}
use Rattle.cpa_edit.proofs.make_edits.make_source.Goals as goal

pub source_named-id-requires : goal.source_named-id-requires
source_named-id-requires c = named-source c.args.system.now c.args.name.now c.args.period c.args.jitter c.args.distance c.requires.allowed

pub set_source-requires-clause-rules : goal.set_source-requires-clause-rules
unfolding change
set_source-requires-clause-rules c = rw (c.source_named-id.ensures.value) c.requires.rules

pub returns : goal.returns
unfolding change
returns c = rw (c.set_source.ensures, c.source_named-id.ensures.value) refl
