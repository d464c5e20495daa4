use Rattle.cpa_edit.proofs.EditLaws.{task-there}
use Rattle.cpa_edit.proofs.lookups.task_named.Goals as goal

pub returns-clause-there : goal.returns-clause-there
returns-clause-there c = rw (c.unwrap_or.ensures, c.find_task.ensures.found) (task-there c.args.system.now c.args.name.now c.requires)
