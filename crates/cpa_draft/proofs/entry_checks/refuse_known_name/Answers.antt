use Rattle.std.proofs.Common.{Ok, ap, refl, ◌∙◌}
use Rattle.cpa_draft.proofs.entry_checks.refuse_known_name.Goals as goal

pub returns-clause-tables : goal.returns-clause-tables
returns-clause-tables c _ = record {
  of_resources = c.in_ok-place.ensures.added (ap Ok c.in_default.is) ∙ rw (c.requires.no_resources, c.resource_entries.ensures) refl;
  of_activities =
      c.in_ok-place-3.ensures.added (ap Ok c.in_default-3.is)
      ∙ rw (c.in_ok-place-2.ensures.added (ap Ok c.in_default-2.is), c.requires.no_activities, c.source_entries.ensures, c.task_entries.ensures) refl;
}
