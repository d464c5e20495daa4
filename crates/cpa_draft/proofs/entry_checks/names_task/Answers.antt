use Rattle.std.proofs.Common.{◌≡◌, ◌≢◌, ℕ, false, refl, sym, ap, ◌∙◌}
use Rattle.cpa_draft.specs.Names.{is_task}
use Rattle.cpa_draft.specs.declared.links.Link.{Link}
use Rattle.cpa_draft.specs.declared.links.Link.TheVariants.{Nothing, Source, Task}
use Rattle.cpa_draft.proofs.entry_checks.names_task.Goals as goal

no_task : (l : Link) → ((j : ℕ) → l ≢ Task j) → false ≡ is_task l
no_task Nothing other = refl
no_task Source other = refl
no_task (Task j) other = absurd (other j refl)

pub returns-in-Task : goal.returns-in-Task
returns-in-Task c = ap is_task (sym c.in-Task.is ∙ c.link.ensures)

pub returns-in_default : goal.returns-in_default
returns-in_default c = no_task c.link.result c.in_default.not-Task ∙ ap is_task c.link.ensures
