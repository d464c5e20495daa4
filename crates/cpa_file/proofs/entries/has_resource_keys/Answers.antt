use Rattle.std.proofs.Common.{◌≡◌, ◌∙◌, true, false, sym}
use Rattle.toml.specs.View.{view}
use Rattle.cpa_file.specs.Formats.{has_later_kinds}
use Rattle.cpa_file.specs.Entries.{usual_resource_keys, resource_keys}
use Rattle.cpa_file.proofs.KeyLaws.{only-more, usual_resource-known}
use Rattle.cpa_file.proofs.entries.has_resource_keys.Goals as goal

pub returns-then-usual : goal.returns-then-usual
returns-then-usual c = sym (only-more usual_resource_keys (resource_keys c.args.format) (usual_resource-known c.args.format) (view c.args.value.now) (sym c.requires ∙ c.if-usual.true))

pub returns-then-has_later_kinds : goal.returns-then-has_later_kinds
returns-then-has_later_kinds c =
    let is : has_later_kinds c.args.format ≡ true = sym c.if-has_later_kinds.ensures in
    rw is c.only_has.ensures

pub returns-else-has_later_kinds : goal.returns-else-has_later_kinds
returns-else-has_later_kinds c =
    let is : has_later_kinds c.args.format ≡ false = sym c.if-has_later_kinds.ensures in
    rw is (sym c.if-usual.false ∙ c.requires)
