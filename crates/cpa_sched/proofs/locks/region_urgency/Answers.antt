use Rattle.std.proofs.Common.{◌≡◌, ◌/◌, ◌%◌, ◌≤◌, ◌⊎◌, sym, inl, inr, arith}
use Rattle.std.proofs.lemmas.Nat.{mod_below, div-add-mod'}
use Rattle.cpa_sched.proofs.SectionLaws.{region-urgent, region-free}
use Rattle.cpa_sched.proofs.locks.region_urgency.Goals as goal
use Rattle.cpa_sched.proofs.locks.region_urgency.Goals.{else-received-region-via-then-received-region+else-received-region-ne0, else-received-region-via-else-received-region}

pub returns-then-received-region-ne0 : goal.returns-then-received-region-ne0
returns-then-received-region-ne0 c =
    let a = c.args in
    sym (region-urgent a.region (a.received / a.region) (a.received % a.region) a.received (div-add-mod' a.received a.region) (mod_below a.received a.region (omega (arith, c.requires)))
    a.base a.worst c.if-received-region.true (omega (arith, c.if-received-region-ne0.true)))

pub returns-else-received-region : goal.returns-else-received-region
returns-else-received-region c =
    let a = c.args in
    let none : (a.worst ≤ a.received / a.region) ⊎ (a.received % a.region ≡ 0) =
    elim c.else-received-region.branch [
      | else-received-region-via-then-received-region+else-received-region-ne0 w ↦ inr w.if-received-region-ne0.false
      | else-received-region-via-else-received-region w ↦ inl (omega (arith, w.if-received-region.false))
    ] in
    omega (
      arith,
      c.from.ensures,
      region-free a.region (a.received / a.region) (a.received % a.region) a.received (div-add-mod' a.received a.region) (mod_below a.received a.region (omega (arith, c.requires))) a.base a.worst none,
    )
