use Rattle.cpa_edit.proofs.EditLaws.{resource-there}
use Rattle.cpa_edit.proofs.lookups.resource_named.Goals as goal

pub returns-clause-there : goal.returns-clause-there
returns-clause-there c = rw (c.unwrap_or.ensures, c.find_resource.ensures.found) (resource-there c.args.system.now c.args.name.now c.requires)
