use Rattle.std.proofs.Common.{refl, ◌∙◌}
use Rattle.cpa_draft.specs.Refusals.{too_many}
use Rattle.cpa_draft.proofs.entry_checks.refuse_too_many.Goals as goal

pub returns : goal.returns
unfolding too_many
returns c =
    c.first_refused.ensures
    ∙ rw (
      c.first_past.ensures.place,
      c.first_past-2.ensures.place,
      c.first_past-3.ensures.place,
      c.first_past-4.ensures.place,
      c.most_resources.ensures,
      c.most_sources.ensures,
      c.most_tasks.ensures,
      c.most_paths.ensures,
      c.size.ensures,
      c.size-2.ensures,
      c.size-3.ensures,
      c.size-4.ensures,
      c.resource_entries.ensures,
      c.source_entries.ensures,
      c.task_entries.ensures,
      c.path_entries.ensures,
    )
    refl
