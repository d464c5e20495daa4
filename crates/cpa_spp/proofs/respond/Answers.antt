use Rattle.std.proofs.Common.{◌+◌, ◌*◌, sym, ◌∙◌}
use Rattle.cpa_units.specs.declared.bound.Bound.TheVariants.{Within}
use Rattle.cpa_events.specs.Events.{delta_minus}
use Rattle.cpa_window.specs.Rivals.{bounded_work}
use Rattle.cpa_window.proofs.BusyWindowLaws.{busy_window_bound-same}
use Rattle.cpa_spp.specs.Preemptive.{preemptive_demand}
use Rattle.cpa_spp.proofs.PreemptiveLaws.{demand-bounded, unbounded-overload}
use Rattle.cpa_spp.proofs.respond.Goals as goal

pub returns-then-some_unbounded : goal.returns-then-some_unbounded
returns-then-some_unbounded c =
    sym (unbounded-overload c.args.own.now c.args.worst c.args.blocking c.args.rivals.now c.args.limit c.requires.worst.some (sym c.some_unbounded.ensures ∙ c.if-some_unbounded.true))

pub returns : goal.returns
returns c =
    c.busy_window_bound.ensures
    ∙ busy_window_bound-same (λ q w. Within (c.args.blocking + q * c.args.worst + bounded_work c.args.rivals.now w)) (preemptive_demand c.args.worst c.args.blocking c.args.rivals.now) (delta_minus c.args.own.now) c.args.limit
    (λ q w. demand-bounded c.args.worst c.args.blocking c.args.rivals.now q w (sym c.some_unbounded.ensures ∙ c.if-some_unbounded.false))
