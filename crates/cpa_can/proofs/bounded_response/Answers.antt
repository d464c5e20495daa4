use Rattle.std.proofs.Common.{sym, ◌∙◌}
use Rattle.cpa_units.specs.declared.bound.Bound.TheVariants.{Within, Overload}
use Rattle.cpa_can.proofs.FrameLaws.{idle-overload, busy_window, bound-busy}
use Rattle.cpa_can.proofs.bounded_response.Goals as goal

pub returns-in-Some : goal.returns-in-Some
returns-in-Some c =
    let a = c.args in
    let s = a.starts.now in
    let busy = busy_window a.own.now s.worst s.blocking s.rivals.now s.bit a.limit c.requires.bounded (Within c.in-Some.busy) c.in-Some.ensures.found in
    let bound = bound-busy a.own.now s.worst s.blocking s.rivals.now s.bit a.limit c.in-Some.busy busy in
    c.greatest_response.ensures ∙ (rw c.eta_plus.ensures (sym bound))

pub returns-in-None : goal.returns-in-None
returns-in-None c =
    let a = c.args in
    let s = a.starts.now in
    let idle = busy_window a.own.now s.worst s.blocking s.rivals.now s.bit a.limit c.requires.bounded Overload c.in-None.ensures.none in
    sym (idle-overload a.own.now s.worst s.blocking s.rivals.now s.bit a.limit idle)
