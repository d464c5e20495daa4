use Rattle.cpa_events.proofs.EventLaws.{in_range-is_model}
use Rattle.cpa_can.proofs.BusLaws.{busy-found, busy-none}
use Rattle.cpa_can.proofs.busy_window.Goals as goal

pub returns-then-starts-clause-found : goal.returns-then-starts-clause-found
returns-then-starts-clause-found c =
    let a = c.args in
    let s = a.starts.now in
    busy-found a.own.now s.worst s.blocking s.bit s.rivals.now a.first a.limit (in_range-is_model a.own.now c.requires.own) s.execution.some c.if-starts.true c.requires.first
    c.least_window.result c.least_window.ensures.found

pub returns-then-starts-clause-none : goal.returns-then-starts-clause-none
returns-then-starts-clause-none c =
    let a = c.args in
    let s = a.starts.now in
    busy-none a.own.now s.worst s.blocking s.bit s.rivals.now a.first a.limit (in_range-is_model a.own.now c.requires.own) s.execution.some c.if-starts.true c.requires.first
    c.least_window.result c.least_window.ensures.none
