use Rattle.std.proofs.Common.{ap, ◌∙◌}
use Rattle.std.specs.Prelude.{position}
use Rattle.std.specs.Str.{bytes_eq}
use Rattle.cpa_draft.proofs.tables.Tables.activity.Goals as goal

pub returns : goal.returns
returns c = c.place.ensures ∙ ap (position (bytes_eq c.args.name.now)) c.requires.of_activities
