use Rattle.std.proofs.Common.{◌≡◌, ◌∙◌, length, nat_lt, true, false, sym, ap, subst, arith}
use Rattle.cpa_sim.specs.Outcome.{end_of}
use Rattle.cpa_sim.specs.Replays.{FollowedRun}
use Rattle.cpa_sim.proofs.SimulatorLaws.{ended, end-within}
use Rattle.cpa_audit.specs.Segments.{segments}
use Rattle.cpa_audit.specs.Compared.{IsFollowed}
use Rattle.cpa_audit.specs.Auditing.{is_settled}
use Rattle.cpa_audit.specs.AuditText.{NamesTasks}
use Rattle.cpa_audit.specs.Firsts.{IsFirst}
use Rattle.cpa_audit.proofs.FindingLaws.{found-is, found-first, finding-names, place-within}
use Rattle.cpa_audit.proofs.AllLaws.{segments-are-all}
use Rattle.cpa_audit.proofs.RunLaws.{followed-none, partly-few, all-segments, settled-first, settled-some}
use Rattle.cpa_audit.proofs.auditing.audit.Goals as goal

pub moments-init : goal.moments-init
moments-init c =
    let s = c.args.system.now in
    let tr = c.args.trace.now in
    let so_far = c.in_ok-so_far.so_far in
    let none = followed-none s tr c.args.schedule.now so_far.opens.items so_far.count so_far.first c.in_ok-so_far.ensures.opens c.in_ok-so_far.ensures.count c.in_ok-so_far.ensures.first in
    let time = ap (λ (p : FollowedRun). p.time) c.in_ok-replay.ensures in
    record {
      system = ap (λ (p : FollowedRun). p.system) c.in_ok-replay.ensures;
      trace = ap (λ (p : FollowedRun). p.trace) c.in_ok-replay.ensures;
      within = omega (arith, time);
      followed = subst (λ t. IsFollowed s tr c.args.schedule.now 0 t t so_far.opens.items so_far.count so_far.first) (sym time) none;
    }

pub close_all-requires-clause-few : goal.close_all-requires-clause-few
close_all-requires-clause-few c =
    let inv = c.moments.invariant in
    let few = partly-few c.args.system.now c.args.trace.now c.moments.replay.time 0 c.has_rules.ensures.few_resources in
    omega (arith, few, inv.followed.counted, inv.within, end-within c.args.system.now c.args.trace.now)

pub follow_all-requires-clause-system : goal.follow_all-requires-clause-system
follow_all-requires-clause-system c = c.advance.ensures.system ∙ c.moments.invariant.system

pub follow_all-requires-clause-trace : goal.follow_all-requires-clause-trace
follow_all-requires-clause-trace c = c.advance.ensures.trace ∙ c.moments.invariant.trace

pub follow_all-requires-clause-within : goal.follow_all-requires-clause-within
follow_all-requires-clause-within c =
    let s = c.args.system.now in
    let tr = c.args.trace.now in
    let run = c.advance.new.self in
    let same : end_of run.system run.trace ≡ end_of s tr = ap (λ x. end_of x run.trace) (c.advance.ensures.system ∙ c.moments.invariant.system) ∙ ap (λ x. end_of s x) (c.advance.ensures.trace ∙ c.moments.invariant.trace) in
    omega (arith, same, c.advance.ensures.within)

pub follow_all-requires-clause-followed : goal.follow_all-requires-clause-followed
follow_all-requires-clause-followed c =
    let s = c.args.system.now in
    let tr = c.args.trace.now in
    subst (λ t. IsFollowed s tr c.args.schedule.now 0 t t c.moments.so_far.opens.items c.moments.so_far.count c.moments.so_far.first) (sym c.time-time.ensures) c.moments.invariant.followed

pub moments-preserved : goal.moments-preserved
moments-preserved c =
    let s = c.args.system.now in
    let tr = c.args.trace.now in
    let run = c.advance.new.self in
    let same : end_of run.system run.trace ≡ end_of s tr = ap (λ x. end_of x run.trace) (c.advance.ensures.system ∙ c.moments.invariant.system) ∙ ap (λ x. end_of s x) (c.advance.ensures.trace ∙ c.moments.invariant.trace) in
    record {
      system = c.advance.ensures.system ∙ c.moments.invariant.system;
      trace = c.advance.ensures.trace ∙ c.moments.invariant.trace;
      within = omega (arith, same, c.advance.ensures.within);
      followed = c.follow_all.ensures;
    }

pub close_all-requires-clause-end : goal.close_all-requires-clause-end
close_all-requires-clause-end c =
    let inv = c.moments.invariant in
    let s = c.args.system.now in
    let tr = c.args.trace.now in
    let run = c.moments.replay in
    let same : end_of run.system run.trace ≡ end_of s tr = ap (λ x. end_of x run.trace) inv.system ∙ ap (λ x. end_of s x) inv.trace in
    let off : nat_lt run.time (end_of s tr) ≡ false = ap (nat_lt run.time) (sym same) ∙ (sym c.goes_on.ensures ∙ c.moments-test.false) in
    c.time.ensures ∙ ended s tr run.time off inv.within

-- at a moment from which on the first difference is known
pub found-requires : goal.found-requires
found-requires c = λ d e.
    let s = c.args.system.now in
    let tr = c.args.trace.now in
    let run = c.advance.new.self in
    let so_far = c.follow_all.new.so_far in
    let same : end_of run.system run.trace ≡ end_of s tr = ap (λ x. end_of x run.trace) (c.advance.ensures.system ∙ c.moments.invariant.system) ∙ ap (λ x. end_of s x) (c.advance.ensures.trace ∙ c.moments.invariant.trace) in
    let first = settled-first s tr c.args.schedule.now run.time so_far.opens.items so_far.count so_far.first (omega (arith, same, c.advance.ensures.within)) c.follow_all.ensures (sym c.is_settled.ensures ∙ c.if-is_settled.true) in
    place-within c.args.schedule.now (segments s tr) d (subst (IsFirst c.args.schedule.now (segments s tr)) e first)

pub returns-then-is_settled-clause-finding : goal.returns-then-is_settled-clause-finding
returns-then-is_settled-clause-finding c =
    let s = c.args.system.now in
    let tr = c.args.trace.now in
    let run = c.advance.new.self in
    let so_far = c.follow_all.new.so_far in
    let same : end_of run.system run.trace ≡ end_of s tr = ap (λ x. end_of x run.trace) (c.advance.ensures.system ∙ c.moments.invariant.system) ∙ ap (λ x. end_of s x) (c.advance.ensures.trace ∙ c.moments.invariant.trace) in
    let settled : is_settled so_far.opens.items so_far.first ≡ true = sym c.is_settled.ensures ∙ c.if-is_settled.true in
    let first = settled-first s tr c.args.schedule.now run.time so_far.opens.items so_far.count so_far.first (omega (arith, same, c.advance.ensures.within)) c.follow_all.ensures settled in
    c.found.ensures ∙ found-first c.args.schedule.now (segments s tr) so_far.count so_far.first (settled-some so_far.opens.items so_far.first settled) first

pub returns-then-is_settled-clause-names : goal.returns-then-is_settled-clause-names
returns-then-is_settled-clause-names c =
    let s = c.args.system.now in
    let tr = c.args.trace.now in
    let all = (segments-are-all s tr c.has_rules.ensures c.requires).each in
    let named = finding-names s c.args.schedule.now (segments s tr) (λ seg h. (all seg h).task) in
    subst (NamesTasks s) (sym (returns-then-is_settled-clause-finding c)) named

-- at the end of the run
pub found-requires-2 : goal.found-requires-2
found-requires-2 c = λ d e.
    place-within c.args.schedule.now (segments c.args.system.now c.args.trace.now) d (subst (IsFirst c.args.schedule.now (segments c.args.system.now c.args.trace.now)) e c.close_all.ensures.first)

pub returns-clause-finding : goal.returns-clause-finding
returns-clause-finding c =
    let inv = c.moments.invariant in
    let s = c.args.system.now in
    let tr = c.args.trace.now in
    let run = c.moments.replay in
    let same : end_of run.system run.trace ≡ end_of s tr = ap (λ x. end_of x run.trace) inv.system ∙ ap (λ x. end_of s x) inv.trace in
    let off : nat_lt run.time (end_of s tr) ≡ false = ap (nat_lt run.time) (sym same) ∙ (sym c.goes_on.ensures ∙ c.moments-test.false) in
    let at = ended s tr run.time off inv.within in
    let counted = c.close_all.ensures.count ∙ (inv.followed.counted ∙ ap length (all-segments s tr run.time at)) in
    c.found-2.ensures ∙ found-is c.args.schedule.now (segments s tr) c.close_all.new.so_far.count c.close_all.new.so_far.first counted c.close_all.ensures.first

pub returns-clause-names : goal.returns-clause-names
returns-clause-names c =
    let s = c.args.system.now in
    let tr = c.args.trace.now in
    let all = (segments-are-all s tr c.has_rules.ensures c.requires).each in
    let named = finding-names s c.args.schedule.now (segments s tr) (λ seg h. (all seg h).task) in
    subst (NamesTasks s) (sym (returns-clause-finding c)) named
