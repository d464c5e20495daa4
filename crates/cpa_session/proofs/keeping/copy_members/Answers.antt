use Rattle.std.proofs.Common.{None, ◌∙◌, sym, inl, arith}
use Rattle.std.proofs.lemmas.List.{ext_get_or}
use Rattle.cpa_session.proofs.keeping.copy_members.Goals as goal

pub returns : goal.returns
returns c =
    ext_get_or None c.loop-place.readings c.args.from.now (c.loop-place.invariant.long ∙ c.requires.same ∙ sym c.requires.from)
    (λ r less. c.loop-place.invariant.same r (omega (arith, less, c.loop-place.invariant.long, c.requires.same, c.requires.from)) (inl (omega (arith, less, c.loop-place.invariant.long, c.requires.same, c.resources-place-end.ensures.count, c.loop-place-test.false))))
