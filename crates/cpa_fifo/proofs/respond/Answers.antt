use Rattle.std.proofs.Common.{sym, ◌∙◌}
use Rattle.cpa_units.specs.declared.bound.Bound.TheVariants.{Within, Overload}
use Rattle.cpa_fifo.proofs.QueueWalk.{unbounded-overload, idle-overload, busy_window, bound-busy}
use Rattle.cpa_fifo.proofs.respond.Goals as goal

pub returns-then-some_unbounded : goal.returns-then-some_unbounded
returns-then-some_unbounded c =
    let a = c.args in
    sym (unbounded-overload a.own.now a.worst a.rivals.now a.limit (sym c.some_unbounded.ensures ∙ c.if-some_unbounded.true))

pub returns-in-Some : goal.returns-in-Some
returns-in-Some c =
    let a = c.args in
    let bounded = sym c.some_unbounded.ensures ∙ c.if-some_unbounded.false in
    let busy = busy_window a.own.now a.worst a.rivals.now a.limit bounded (Within c.in-Some.busy) c.in-Some.ensures.found in
    sym (bound-busy a.own.now a.worst a.rivals.now a.limit c.in-Some.busy busy ∙ c.greatest_response.ensures)

pub returns-in-None : goal.returns-in-None
returns-in-None c =
    let a = c.args in
    let bounded = sym c.some_unbounded.ensures ∙ c.if-some_unbounded.false in
    sym (idle-overload a.own.now a.worst a.rivals.now a.limit (busy_window a.own.now a.worst a.rivals.now a.limit bounded Overload c.in-None.ensures.none))
