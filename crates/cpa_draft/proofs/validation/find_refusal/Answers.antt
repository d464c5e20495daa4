use Rattle.std.proofs.Common.{◌∙◌, sym}
use Rattle.cpa_draft.proofs.UnrefusedLaws.{ticking}
use Rattle.cpa_draft.proofs.validation.find_refusal.Goals as goal

pub refuse_too_long_clock-requires : goal.refuse_too_long_clock-requires
refuse_too_long_clock-requires c = ticking c.args.draft.now (sym c.refuse_out_of_range.ensures ∙ c.in_default.is)
