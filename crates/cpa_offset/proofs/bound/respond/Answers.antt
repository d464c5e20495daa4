use Rattle.std.proofs.Common.{sym, ◌∙◌}
use Rattle.cpa_phase.proofs.RangeLaws.{period_le}
use Rattle.cpa_offset.specs.Offsets.{elsewhere, offset_bound}
use Rattle.cpa_offset.proofs.BoundLaws.{bound_from-nearer, offset_bound-unbounded}
use Rattle.cpa_offset.proofs.bound.respond.Goals as goal

pub returns-then-some_unbounded : goal.returns-then-some_unbounded
returns-then-some_unbounded c =
    let a = c.args in
    sym (offset_bound-unbounded a.own.now a.blocking a.joint.now a.clocks.now a.free.now a.limit a.cycle c.requires.own.placed.stream.regular
    (period_le a.own.now a.cycle c.requires.some c.requires.own) c.requires.worst.some (sym c.some_unbounded.ensures ∙ c.if-some_unbounded.true))

pub greatest_from_candidates-requires-clause-nearer : goal.greatest_from_candidates-requires-clause-nearer
greatest_from_candidates-requires-clause-nearer c =
    let a = c.args in
    bound_from-nearer a.own.now a.blocking a.joint.now (elsewhere a.clocks.now a.free.now) a.limit

pub returns : goal.returns
unfolding offset_bound
returns c = c.greatest_from_candidates.ensures
