use Rattle.std.proofs.Common.{◌+◌, ◌*◌, sym, ◌∙◌, subst}
use Rattle.std.proofs.lemmas.Bool.{false≢true}
use Rattle.cpa_units.specs.declared.bound.Bound.{Bound}
use Rattle.cpa_units.specs.declared.bound.Bound.TheVariants.{Within}
use Rattle.cpa_units.specs.Bounds.{IsAtMost}
use Rattle.cpa_events.specs.Events.{delta_minus}
use Rattle.cpa_window.specs.Rivals.{bounded_work}
use Rattle.cpa_window.proofs.BusyWindowLaws.{busy_window_bound-same}
use Rattle.cpa_window.proofs.WalkLaws.{not_at_most}
use Rattle.cpa_spp.specs.Preemptive.{preemptive_demand}
use Rattle.cpa_spp.proofs.PreemptiveLaws.{demand-bounded, unbounded-overload}
use Rattle.cpa_spp.proofs.is_within.Goals as goal

pub returns-then-some_unbounded : goal.returns-then-some_unbounded
returns-then-some_unbounded c =
    let none = unbounded-overload c.args.own.now c.args.worst c.args.blocking c.args.rivals.now c.args.limit c.requires.worst.some (sym c.some_unbounded.ensures ∙ c.if-some_unbounded.true) in
    (λ no. absurd (false≢true no), λ h. absurd (not_at_most _ c.args.most none h))

pub returns : goal.returns
returns c =
    let same = busy_window_bound-same (λ q w. Within (c.args.blocking + q * c.args.worst + bounded_work c.args.rivals.now w)) (preemptive_demand c.args.worst c.args.blocking c.args.rivals.now) (delta_minus c.args.own.now) c.args.limit
    (λ q w. demand-bounded c.args.worst c.args.blocking c.args.rivals.now q w (sym c.some_unbounded.ensures ∙ c.if-some_unbounded.false)) in (
      λ yes. subst (λ (b : Bound). IsAtMost b (Within c.args.most)) same (c.is_busy_window_within.ensures.0 yes),
      λ h. c.is_busy_window_within.ensures.1 (subst (λ (b : Bound). IsAtMost b (Within c.args.most)) (sym same) h),
    )
