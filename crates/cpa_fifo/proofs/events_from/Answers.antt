use Rattle.std.proofs.Common.{arith}
use Rattle.cpa_events.proofs.EventLaws.{in_range-is_model}
use Rattle.cpa_fifo.proofs.QueueWalk.{events-constant}
use Rattle.cpa_fifo.proofs.events_from.Goals as goal

pub overflow_add-result : goal.overflow_add-result
overflow_add-result c =
    let a = c.args in
    let constant = events-constant a.model.now a.window (in_range-is_model a.model.now c.requires.model) c.requires.some in
    omega (arith, constant.low, c.delta_minus.ensures, c.eta_plus-events.ensures, rw (c.eta_plus-events.ensures) at c.delta_minus.ensures)

pub returns : goal.returns
returns c =
    let a = c.args in
    let constant = events-constant a.model.now a.window (in_range-is_model a.model.now c.requires.model) c.requires.some in
    rw (c.delta_minus.ensures, c.eta_plus-events.ensures) constant
