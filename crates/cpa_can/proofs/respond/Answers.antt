use Rattle.std.proofs.Common.{sym, ◌∙◌}
use Rattle.cpa_events.proofs.EventLaws.{in_range-is_model}
use Rattle.cpa_can.proofs.BusLaws.{unstarted}
use Rattle.cpa_can.proofs.FrameLaws.{unbounded-overload}
use Rattle.cpa_can.proofs.respond.Goals as goal

pub returns-then-some_unbounded : goal.returns-then-some_unbounded
returns-then-some_unbounded c =
    let a = c.args in
    sym (unbounded-overload a.own.now a.worst a.blocking a.rivals.now a.bit a.limit (sym c.some_unbounded.ensures ∙ c.if-some_unbounded.true))

pub returns-in_default : goal.returns-in_default
returns-in_default c =
    let a = c.args in
    let bounded = sym c.some_unbounded.ensures ∙ c.if-some_unbounded.false in
    sym (unstarted a.own.now a.worst a.blocking a.rivals.now a.bit a.limit (in_range-is_model a.own.now c.requires.own) bounded c.in_default.ensures.none)
