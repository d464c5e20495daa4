use Rattle.std.proofs.Common.{◌≡◌, ◌≢◌, false, refl}
use Rattle.cpa_draft.specs.Names.{is_nothing}
use Rattle.cpa_draft.specs.declared.links.Link.{Link}
use Rattle.cpa_draft.specs.declared.links.Link.TheVariants.{Nothing, Source, Task}
use Rattle.cpa_draft.proofs.entry_checks.is_nothing.Goals as goal

something : (l : Link) → l ≢ Nothing → false ≡ is_nothing l
something Nothing other = absurd (other refl)
something Source other = refl
something (Task j) other = refl

pub returns-in-Nothing : goal.returns-in-Nothing
returns-in-Nothing c = rw c.in-Nothing.is refl

pub returns-in_default : goal.returns-in_default
returns-in_default c = something c.args.link c.in_default.not-Nothing
