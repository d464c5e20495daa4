use Rattle.std.proofs.Common.{◌≡◌, ◌∙◌, true, false, sym}
use Rattle.toml.specs.View.{view}
use Rattle.cpa_file.specs.Formats.{has_more_of_tasks}
use Rattle.cpa_file.specs.Entries.{usual_keys, task_keys}
use Rattle.cpa_file.proofs.KeyLaws.{only-more, usual-known}
use Rattle.cpa_file.proofs.entries.has_task_keys.Goals as goal

pub returns-then-usual : goal.returns-then-usual
returns-then-usual c = sym (only-more usual_keys (task_keys c.args.format) (usual-known c.args.format) (view c.args.value.now) (sym c.requires ∙ c.if-usual.true))

pub returns-then-has_more_of_tasks : goal.returns-then-has_more_of_tasks
returns-then-has_more_of_tasks c =
    let is : has_more_of_tasks c.args.format ≡ true = sym c.if-has_more_of_tasks.ensures in
    rw is c.only_has.ensures

pub returns-else-has_more_of_tasks : goal.returns-else-has_more_of_tasks
returns-else-has_more_of_tasks c =
    let is : has_more_of_tasks c.args.format ≡ false = sym c.if-has_more_of_tasks.ensures in
    rw is c.only_has-else-has_more_of_tasks.ensures
