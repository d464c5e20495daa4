use Rattle.std.proofs.Common.{sym, ap, ◌∙◌}
use Rattle.cpa_draft.specs.Held.{links_held}
use Rattle.cpa_draft.proofs.links.Links.links.Goals as goal

pub returns-in-One : goal.returns-in-One
returns-in-One c = c.from_ref.ensures.value ∙ ap links_held (sym c.in-One.is) ∙ c.self.view_is

pub returns-in-Several : goal.returns-in-Several
returns-in-Several c = c.as_slice.ensures.value ∙ ap links_held (sym c.in-Several.is) ∙ c.self.view_is
