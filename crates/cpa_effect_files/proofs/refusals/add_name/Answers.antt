use Rattle.std.proofs.Common.{◌≡◌, ◌∙◌, true, sym}
use Rattle.cpa_effect_files.proofs.KeyLaws.{new-name, name-added}
use Rattle.cpa_effect_files.proofs.refusals.add_name.Goals as goal

pub returns-clause-new : goal.returns-clause-new
returns-clause-new c = new-name c.args.names.now.keys c.in_ok-name.name c.args.name.now c.in_ok-name.ensures.items c.in_ok-new.new c.in_ok-new.ensures.added

pub returns-clause-added : goal.returns-clause-added
returns-clause-added c e =
    let said = new-name c.args.names.now.keys c.in_ok-name.name c.args.name.now c.in_ok-name.ensures.items c.in_ok-new.new c.in_ok-new.ensures.added in
    let new : c.in_ok-new.new ≡ true = cc in
    name-added c.args.names.now.keys c.in_ok-name.name c.args.name.now c.in_ok-name.ensures.items c.insert_full.new.self.keys (sym new ∙ said) c.in_ok-new.ensures.keys
