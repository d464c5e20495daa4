use Rattle.std.proofs.Common.{◌∙◌}
use Rattle.cpa_units.specs.declared.bound.Bound.TheVariants.{Within}
use Rattle.cpa_events.specs.Events.{delta_minus}
use Rattle.cpa_window.proofs.BusyWindowLaws.{busy_window_bound-same}
use Rattle.cpa_rr.specs.RoundRobin.{round_robin_demand}
use Rattle.cpa_rr.specs.RoundRobinWork.{round_robin_work}
use Rattle.cpa_rr.proofs.RoundRobinLaws.{demand-number}
use Rattle.cpa_rr.proofs.respond.Goals as goal

pub returns : goal.returns
returns c =
    c.busy_window_bound.ensures
    ∙ busy_window_bound-same (λ q w. Within (round_robin_work c.args.worst c.args.slot c.args.rivals.now q w)) (round_robin_demand c.args.worst c.args.slot c.args.rivals.now) (delta_minus c.args.own.now) c.args.limit
    (demand-number c.args.worst c.args.slot c.args.rivals.now)
