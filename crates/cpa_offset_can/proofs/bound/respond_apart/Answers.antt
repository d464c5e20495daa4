use Rattle.std.proofs.Common.{◌∙◌, sym}
use Rattle.cpa_offset_can.proofs.CanLaws.{can_apart_bound-unbounded, can_apart_bound-bounded}
use Rattle.cpa_offset_can.proofs.bound.respond_apart.Goals as goal

pub returns-then-some_unbounded : goal.returns-then-some_unbounded
returns-then-some_unbounded c =
    let a = c.args in
    sym (can_apart_bound-unbounded a.own.now a.worst a.blocking a.clocks.now a.free.now a.bit a.limit (sym c.some_unbounded.ensures ∙ c.if-some_unbounded.true))

pub frames_bound-requires-clause-known : goal.frames_bound-requires-clause-known
frames_bound-requires-clause-known c = c.new-known.ensures c.args.clocks.now

pub returns : goal.returns
returns c =
    let a = c.args in
    c.frames_bound.ensures.value ∙ can_apart_bound-bounded a.own.now a.worst a.blocking a.clocks.now a.free.now a.bit a.limit (sym c.some_unbounded.ensures ∙ c.if-some_unbounded.false)
