use Rattle.cpa_edit.proofs.NameLaws.{scripts-are_named}
use Rattle.cpa_run.proofs.loading.read_script_file.Goals as goal

pub returns-in-Ok-clause-named : goal.returns-in-Ok-clause-named
returns-in-Ok-clause-named c = scripts-are_named c.args.bytes.now c.in-Ok.script c.in-Ok.ensures
