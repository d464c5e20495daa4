use Rattle.std.proofs.Common.{◌∙◌, ◌/◌, ◌%◌, sym, arith}
use Rattle.std.proofs.lemmas.Nat.{mod_below, div-add-mod'}
use Rattle.cpa_sched.proofs.SectionLaws.{region-release, region-over}
use Rattle.cpa_sched.proofs.locks.region_ticks.Goals as goal

pub returns-then-received-region-clause-value : goal.returns-then-received-region-clause-value
returns-then-received-region-clause-value c =
    let a = c.args in
    c.min.ensures
    ∙ sym (region-release a.region (a.received / a.region) (a.received % a.region) a.received (div-add-mod' a.received a.region) (mod_below a.received a.region (omega (arith, c.requires.region)))
    a.most a.worst c.if-received-region.true)

pub returns-else-received-region-clause-value : goal.returns-else-received-region-clause-value
returns-else-received-region-clause-value c =
    let a = c.args in
    sym (region-over a.region (a.received / a.region) (a.received % a.region) a.received (div-add-mod' a.received a.region) (mod_below a.received a.region (omega (arith, c.requires.region)))
    a.most a.worst (omega (arith, c.if-received-region.false)))
