use Rattle.std.proofs.Common.{refl, ◌∙◌}
use Rattle.cpa_draft.specs.Refusals.{out_of_range}
use Rattle.cpa_draft.proofs.entry_checks.refuse_out_of_range.Goals as goal

pub returns : goal.returns
unfolding out_of_range
returns c =
    c.first_refused.ensures
    ∙ rw (
      c.first_unfit.ensures.place,
      c.first_unfit-2.ensures.place,
      c.first_unfit-3.ensures.place,
      c.first_unfit-4.ensures.place,
      c.size.ensures,
      c.size-2.ensures,
      c.size-3.ensures,
      c.resource_entries.ensures,
      c.source_entries.ensures,
      c.task_entries.ensures,
      c.path_entries.ensures,
    )
    refl
