use Rattle.cpa_edit.proofs.EditLaws.{source-there}
use Rattle.cpa_edit.proofs.lookups.source_named.Goals as goal

pub returns-clause-there : goal.returns-clause-there
returns-clause-there c = rw (c.unwrap_or.ensures, c.find_source.ensures.found) (source-there c.args.system.now c.args.name.now c.requires)
