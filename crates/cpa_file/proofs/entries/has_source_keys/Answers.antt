use Rattle.std.proofs.Common.{◌≡◌, ◌∙◌, true, false, sym}
use Rattle.toml.specs.View.{view}
use Rattle.cpa_file.specs.Formats.{has_more_of_sources}
use Rattle.cpa_file.specs.Entries.{usual_source_keys, source_keys}
use Rattle.cpa_file.proofs.KeyLaws.{only-more, usual_source-known}
use Rattle.cpa_file.proofs.entries.has_source_keys.Goals as goal

pub returns-then-usual : goal.returns-then-usual
returns-then-usual c = sym (only-more usual_source_keys (source_keys c.args.format) (usual_source-known c.args.format) (view c.args.value.now) (sym c.requires ∙ c.if-usual.true))

pub returns-then-has_more_of_sources : goal.returns-then-has_more_of_sources
returns-then-has_more_of_sources c =
    let is : has_more_of_sources c.args.format ≡ true = sym c.if-has_more_of_sources.ensures in
    rw is c.only_has.ensures

pub returns-else-has_more_of_sources : goal.returns-else-has_more_of_sources
returns-else-has_more_of_sources c =
    let is : has_more_of_sources c.args.format ≡ false = sym c.if-has_more_of_sources.ensures in
    rw is (sym c.if-usual.false ∙ c.requires)
