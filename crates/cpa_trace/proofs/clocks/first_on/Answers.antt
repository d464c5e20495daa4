use Rattle.std.proofs.Common.{◌≡◌, ◌∙◌, ℕ, ◌+◌, ◌≤◌, ◌<◌, true, false, arith, sym, length, All, subst}
use Rattle.std.proofs.lemmas.Bool.{and_left}
use Rattle.std.proofs.lemmas.List.Elements.{All-nil, All-push}
use Rattle.cpa_model.specs.SystemLists.{source_at}
use Rattle.cpa_model.proofs.ClockLaws.{clock-some}
use Rattle.cpa_trace.specs.Trace.{times_of}
use Rattle.cpa_trace.specs.Leads.{AreLeads, allows, allowed_by}
use Rattle.cpa_trace.specs.Breaches.{fits_lead}
use Rattle.cpa_trace.proofs.LeftLaws.{leaves-none}
use Rattle.cpa_trace.proofs.OffLaws.{AreKept, kept-none, kept-other, serves-other, kept-more, breach-off, breach-left, breach-none, before-next, none-left, one-left, fine-more}
use Rattle.cpa_trace.proofs.clocks.first_on.Goals as goal

pub loop-k-init : goal.loop-k-init
loop-k-init c =
    let s = c.args.system.now in
    let tr = c.args.trace.now in
    record {
      rules = subst (All AreLeads) (sym c.new-others.ensures.items) (All-nil AreLeads);
      kept = subst (AreKept s tr c.args.clock.0 0) (sym c.new-others.ensures.items) (kept-none s tr c.args.clock.0);
      below = omega (arith, c.requires.cycle, clock-some s c.args.clock.0);
      none = λ lead h. absurd (omega arith);
      fine = λ k h on. absurd (omega arith);
    }

pub loop-k-preserved-in_default : goal.loop-k-preserved-in_default
loop-k-preserved-in_default c =
    let s = c.args.system.now in
    let tr = c.args.trace.now in
    let other = c.in_default.ensures.none in
    record {
      rules = c.loop-k.invariant.rules;
      kept = kept-other s tr c.args.clock.0 c.loop-k.k c.loop-k.others.items other c.loop-k.invariant.kept;
      below = c.loop-k.invariant.below;
      none = λ lead h. serves-other s tr c.args.clock.0 c.loop-k.k lead other ∙ c.loop-k.invariant.none lead h;
      fine = fine-more s tr c.args.clock.0 c.loop-k.k c.loop-k.invariant.fine (breach-none s tr c.args.clock.0 c.loop-k.k other);
    }

pub off_at-requires-clause-off : goal.off_at-requires-clause-off
off_at-requires-clause-off c =
    let s = c.args.system.now in
    let times = times_of c.args.trace.now c.loop-k.k in
    leaves-none (source_at s c.loop-k.k) times c.as_slice.result.now c.args.cycle (length times)
    (λ lead h. and_left _ _ (rw (c.source.ensures.value, c.times-times.ensures.value) at (c.in_default-leads_of.ensures.none lead)))

pub returns-in_default-leads_of-clause-some : goal.returns-in_default-leads_of-clause-some
returns-in_default-leads_of-clause-some c =
    let s = c.args.system.now in
    let tr = c.args.trace.now in
    let there : c.loop-k.k < length s.sources = omega (arith, c.loop-k-test.true, c.requires.until) in
    let kept = subst (AreKept s tr c.args.clock.0 c.loop-k.k) (sym c.as_slice.ensures.value) c.loop-k.invariant.kept in
    let event = rw c.requires.cycle at c.off_at.ensures.event in
    let breach = breach-off s tr c.args.clock.0 c.loop-k.k c.in-Some.ensures.on.on there c.as_slice.result.now c.off_at.result.time kept event in
    record {
      below = omega (arith, c.off_at.ensures.source, c.loop-k-test.true);
      breach = rw c.off_at.ensures.source breach;
      before = rw c.off_at.ensures.source c.loop-k.invariant.fine;
    }

pub off_at-requires-then-lead-cycle-clause-off : goal.off_at-requires-then-lead-cycle-clause-off
off_at-requires-then-lead-cycle-clause-off c =
    let s = c.args.system.now in
    let tr = c.args.trace.now in
    let there : c.loop-k.k < length s.sources = omega (arith, c.loop-k-test.true, c.requires.until) in
    rw (c.as_slice-then-lead-cycle.ensures.value, c.requires.cycle)
    (none-left s tr c.args.clock.0 c.loop-k.k c.in-Some.ensures.on.on there c.in-Some-leads_of.own c.loop-k.others.items c.loop-k.lead c.least_lead-lead.result
    (λ l. rw (c.source.ensures.value, c.times-times.ensures.value) at (c.in-Some-leads_of.ensures.these l)) c.loop-k.invariant.kept c.loop-k.invariant.none
    (λ l from less. rw c.as_slice-in-loop-k.ensures.value at (c.least_lead-lead.ensures.first l from less)) (omega (arith, c.if-lead-cycle.true, c.requires.cycle)))

pub returns-then-lead-cycle-clause-some : goal.returns-then-lead-cycle-clause-some
returns-then-lead-cycle-clause-some c =
    let s = c.args.system.now in
    let tr = c.args.trace.now in
    let there : c.loop-k.k < length s.sources = omega (arith, c.loop-k-test.true, c.requires.until) in
    let kept = subst (AreKept s tr c.args.clock.0 c.loop-k.k) (sym c.as_slice-then-lead-cycle.ensures.value) c.loop-k.invariant.kept in
    let event = rw c.requires.cycle at c.off_at-then-lead-cycle.ensures.event in
    let breach = breach-off s tr c.args.clock.0 c.loop-k.k c.in-Some.ensures.on.on there c.as_slice-then-lead-cycle.result.now c.off_at-then-lead-cycle.result.time kept event in
    record {
      below = omega (arith, c.off_at-then-lead-cycle.ensures.source, c.loop-k-test.true);
      breach = rw c.off_at-then-lead-cycle.ensures.source breach;
      before = rw c.off_at-then-lead-cycle.ensures.source c.loop-k.invariant.fine;
    }

pub loop-k-preserved : goal.loop-k-preserved
loop-k-preserved c =
    let s = c.args.system.now in
    let tr = c.args.trace.now in
    let clock = c.args.clock.0 in
    let k = c.loop-k.k in
    let there : k < length s.sources = omega (arith, c.loop-k-test.true, c.requires.until) in
    let on = c.in-Some.ensures.on.on in
    let own = c.in-Some-leads_of.own in
    let others = c.loop-k.others.items in
    let these : (l : ℕ) → allows l own ≡ fits_lead (source_at s k) (times_of tr k) l (length (times_of tr k)) =
    λ l. rw (c.source.ensures.value, c.times-times.ensures.value) at (c.in-Some-leads_of.ensures.these l) in
    let first : (l : ℕ) → c.loop-k.lead ≤ l → l < c.least_lead-lead.result → allowed_by own others l ≡ false =
    λ l from less. rw c.as_slice-in-loop-k.ensures.value at (c.least_lead-lead.ensures.first l from less) in
    let below : c.least_lead-lead.result < c.args.cycle = omega (arith, c.least_lead-lead.ensures.within, c.if-lead-cycle.false) in
    let one : allowed_by own others c.least_lead-lead.result ≡ true = rw c.as_slice-in-loop-k.ensures.value at (c.least_lead-lead.ensures.one below) in
    let kept = c.loop-k.invariant.kept in
    let none = c.loop-k.invariant.none in
    record {
      rules = subst (All AreLeads) (sym c.in_ok-push.ensures.items) (All-push AreLeads others own c.loop-k.invariant.rules c.in-Some-leads_of.ensures.rules);
      kept = subst (AreKept s tr clock (k + 1)) (sym c.in_ok-push.ensures.items) (kept-more s tr clock k on own others these kept);
      below = below;
      none = before-next s tr clock k on there own others c.loop-k.lead c.least_lead-lead.result these kept none first;
      fine = fine-more s tr clock k c.loop-k.invariant.fine (λ _. breach-left s tr clock k on there others kept
          (one-left s tr clock k on there own others c.loop-k.lead c.least_lead-lead.result these kept none first (omega (arith, below, c.requires.cycle)) one));
    }
