use Rattle.std.proofs.Common.{◌≡◌, arith, inl, inr, subst}
use Rattle.std.proofs.lemmas.Bool.{cases_lt}
use Rattle.cpa_model.proofs.ClockLaws.{clock-own, clock-short}
use Rattle.cpa_trace.specs.Offs.{HasNoneOff}
use Rattle.cpa_trace.proofs.OffLaws.{first-breach}
use Rattle.cpa_trace.proofs.clocks.first_clock_breach.Goals as goal

pub loop-c-preserved-in_default : goal.loop-c-preserved-in_default
loop-c-preserved-in_default c =
    let s = c.args.system.now in
    let tr = c.args.trace.now in
    record {
      within = c.loop-c.invariant.within;
      first = c.loop-c.invariant.first;
      some = c.loop-c.invariant.some;
      fine = λ clock h. elim (cases_lt clock c.loop-c.c) [
        | inl less ↦ c.loop-c.invariant.fine clock less
        | inr more ↦
            let same : c.loop-c.c ≡ clock = omega arith in
            subst (λ q. HasNoneOff s tr q c.loop-c.until) same (λ k below on. absurd (c.in_default.ensures.none (clock-own s k c.loop-c.c on)))
      ];
    }

pub returns-clause-first : goal.returns-clause-first
returns-clause-first c =
    let s = c.args.system.now in
    first-breach s c.args.trace.now c.loop-c.until c.loop-c.first c.loop-c.invariant.within c.loop-c.invariant.first c.loop-c.invariant.some
    (λ clock h. c.loop-c.invariant.fine clock (omega arith))

pub first_on-requires-clause-short : goal.first_on-requires-clause-short
first_on-requires-clause-short c = omega (arith, c.in-Some.ensures.some, clock-short c.args.system.now c.has_clocks.ensures.rules c.loop-c.c)
