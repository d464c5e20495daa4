use Rattle.std.proofs.Common.{◌≡◌, ◌∙◌, ◌+◌, ◌-◌, ◌/◌, not, true, length, sym, ap, arith}
use Rattle.cpa_trace.specs.Leads.{leaves_with}
use Rattle.cpa_trace.proofs.SearchLaws.{first_below-some}
use Rattle.cpa_trace.proofs.LeftLaws.{leaves-fewer}
use Rattle.cpa_trace.proofs.leads.first_off.Goals as goal

pub loop-low-preserved-then-leaves_with : goal.loop-low-preserved-then-leaves_with
loop-low-preserved-then-leaves_with c =
    let r = c.args.source.now in
    let middle = c.loop-low.low + (c.loop-low.high - c.loop-low.low) / 2 in
    let left : leaves_with r c.args.times.now c.args.others.now c.args.cycle (middle + 1) ≡ true = sym c.leaves_with.ensures ∙ c.if-leaves_with.true in
    record {
      order = omega arith;
      there = c.loop-low.invariant.there;
      off = c.loop-low.invariant.off;
      left = λ n h. leaves-fewer r c.args.times.now c.args.others.now c.args.cycle (n + 1) (middle + 1) (omega arith) left;
    }

pub returns-clause-first : goal.returns-clause-first
returns-clause-first c =
    let same : c.loop-low.high ≡ c.loop-low.low = omega arith in
    let off = rw same at c.loop-low.invariant.off in
    sym (first_below-some (λ n. not (leaves_with c.args.source.now c.args.times.now c.args.others.now c.args.cycle (n + 1))) (length c.args.times.now) c.loop-low.low
    (omega (arith, c.loop-low.invariant.there)) (ap not off) (λ m h. ap not (c.loop-low.invariant.left m h)))
