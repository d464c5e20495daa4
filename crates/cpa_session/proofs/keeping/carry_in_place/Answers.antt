use Rattle.std.proofs.Common.{◌∙◌, sym, arith}
use Rattle.cpa_session.proofs.keeping.carry_in_place.Goals as goal

pub begin_all-requires : goal.begin_all-requires
begin_all-requires c =
    c.requires.long c.loop-place.place c.in-Some.reading (sym (c.loop-place.invariant.rest c.loop-place.place (omega arith)) ∙ (sym c.take.ensures.taken ∙ c.in-Some.is))
