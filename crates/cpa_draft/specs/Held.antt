-- Lists of one entry or several, as they are held.
use Rattle.std.specs.Prelude.{ℕ, List, [], ◌∷◌}
use Rattle.cpa_draft.specs.declared.draft.HeldNames.{HeldNames}
use Rattle.cpa_draft.specs.declared.draft.HeldNames.TheVariants as names
use Rattle.cpa_draft.specs.declared.links.Link.{Link}
use Rattle.cpa_draft.specs.declared.links.HeldLinks.{HeldLinks}
use Rattle.cpa_draft.specs.declared.links.HeldLinks.TheVariants as links

abbrev pub names_held : HeldNames → List (List ℕ)
names_held (names.One name) = name ∷ []
names_held (names.Several all) = all.items

abbrev pub links_held : HeldLinks → List Link
links_held (links.One link) = link ∷ []
links_held (links.Several all) = all.items
