use Rattle.std.proofs.Common.{◌∙◌, sym, []}
use Rattle.cpa_events.specs.Events.{delta_minus}
use Rattle.cpa_window.proofs.WalkLaws.{numbers}
use Rattle.cpa_window.proofs.BusyWindowLaws.{busy_window_bound-same}
use Rattle.cpa_offset.specs.Jobs.{jobs_work}
use Rattle.cpa_offset.specs.Offsets.{demand, elsewhere}
use Rattle.cpa_offset.proofs.BoundLaws.{apart-bounded}
use Rattle.cpa_offset.proofs.ApartLaws.{apart_bound-unbounded}
use Rattle.cpa_offset.proofs.bound.respond_apart.Goals as goal

pub returns-then-some_unbounded : goal.returns-then-some_unbounded
returns-then-some_unbounded c =
    sym (apart_bound-unbounded c.args.own.now c.args.worst c.args.blocking c.args.clocks.now c.args.free.now c.args.limit c.requires.worst.some (sym c.some_unbounded.ensures ∙ c.if-some_unbounded.true))

pub returns : goal.returns
returns c =
    c.busy_window_bound.ensures
    ∙ busy_window_bound-same (numbers (jobs_work c.args.worst c.args.blocking [] c.args.clocks.now c.args.free.now)) (demand c.args.worst c.args.blocking (elsewhere c.args.clocks.now c.args.free.now)) (delta_minus c.args.own.now) c.args.limit
    (λ q w. apart-bounded c.args.worst c.args.blocking c.args.clocks.now c.args.free.now q w (sym c.some_unbounded.ensures ∙ c.if-some_unbounded.false))
