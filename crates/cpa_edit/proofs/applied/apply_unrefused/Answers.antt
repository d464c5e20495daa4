use Rattle.std.proofs.Common.{Ok, sym, ap, ◌∙◌}
use Rattle.cpa_edit.proofs.EditLaws.{allowed, change-kept}
use Rattle.cpa_edit.proofs.AllowedLaws.{edited-made}
use Rattle.cpa_edit.proofs.applied.apply_unrefused.Goals as goal

pub make-requires-clause-rules : goal.make-requires-clause-rules
make-requires-clause-rules c =
    change-kept c.args.system.now c.has_rules.ensures c.args.edit.now c.has_name.ensures (allowed c.args.system.now c.args.edit.now c.requires)

pub returns-clause-made : goal.returns-clause-made
returns-clause-made c = edited-made c.args.system.now c.args.edit.now (sym c.requires) ∙ ap Ok (sym c.in_ok-make.ensures.made)
