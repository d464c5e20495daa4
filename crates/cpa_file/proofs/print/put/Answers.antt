use Rattle.std.proofs.Common.{ap, refl, ◌∙◌}
use Rattle.toml.specs.View.{members_view}
use Rattle.cpa_file.proofs.PrintLaws.{members_view-insert_entry}
use Rattle.cpa_file.proofs.print.put.Goals as goal

pub returns-in-Ok : goal.returns-in-Ok
returns-in-Ok c =
    ap members_view c.in-Ok.ensures.entries
    ∙ members_view-insert_entry c.args.entry.now.entries c.in_ok-key.key c.args.value
    ∙ rw c.in_ok-key.ensures.ok refl
