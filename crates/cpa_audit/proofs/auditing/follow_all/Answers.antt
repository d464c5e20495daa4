use Rattle.std.proofs.Common.{◌≡◌, ◌∙◌, ◌<◌, ◌≤◌, ℕ, length, sym, ap, subst, inl, inr, arith}
use Rattle.std.proofs.lemmas.Bool.{cases_lt}
use Rattle.cpa_sim.specs.Served.{served_at}
use Rattle.cpa_sim.proofs.SimulatorLaws.{end-within}
use Rattle.cpa_audit.proofs.RunLaws.{followed-first, followed-more, followed-all, partly-few}
use Rattle.cpa_audit.specs.Compared.{IsFollowed}
use Rattle.cpa_audit.proofs.auditing.follow_all.Goals as goal

pub follow-requires-clause-there : goal.follow-requires-clause-there
follow-requires-clause-there c = omega (arith, c.loop-k.invariant.followed.long, c.loop-k-test.true, c.resources-k-end.ensures.count)

pub follow-requires-clause-few : goal.follow-requires-clause-few
follow-requires-clause-few c =
    let s = c.args.system.now in
    let tr = c.args.trace.now in
    let rules = c.resources-k-end.ensures.rules in
    let few = partly-few s tr c.args.time c.loop-k.k rules.few_resources in
    omega (arith, few, c.loop-k.invariant.followed.counted, c.requires.later, c.requires.within, end-within s tr, rules.few_resources, c.loop-k-test.true, c.resources-k-end.ensures.count)

pub loop-k-preserved : goal.loop-k-preserved
loop-k-preserved c =
    let s = c.args.system.now in
    let tr = c.args.trace.now in
    let k = c.loop-k.k in
    let run = c.args.replay.now in
    let there : k < length s.resources = omega (arith, c.loop-k-test.true, c.resources-k-end.ensures.count) in
    let one : (u : ℕ) → served_at s tr u k ≡ served_at run.system run.trace u k = λ u. sym (ap (λ x. served_at x run.trace u k) c.requires.system ∙ ap (λ x. served_at s x u k) c.requires.trace) in
    let got : (u : ℕ) → c.args.time ≤ u → u < run.time → served_at s tr u k ≡ c.ran-ran.result = λ u from before. one u ∙ c.ran-ran.ensures u (omega (arith, from, c.requires.since)) before in
    record {
      followed = followed-more s tr c.args.schedule.now k c.args.time run.time c.loop-k.so_far.opens.items c.follow.new.so_far.opens.items
          c.loop-k.so_far.count c.follow.new.so_far.count c.loop-k.so_far.first c.follow.new.so_far.first c.ran-ran.result c.loop-k.invariant.followed there c.requires.later c.requires.within
          got c.follow.ensures.long c.follow.ensures.opens c.follow.ensures.first c.follow.ensures.count;
      same = λ r u below from before. elim (cases_lt r k) [
        | inl less ↦ c.loop-k.invariant.same r u less from before
        | inr last ↦
            let e : k ≡ r = omega (arith, below, last) in
            subst (λ r. served_at s tr u r ≡ served_at s tr c.args.time r) e (got u from before ∙ sym (got c.args.time (omega arith) c.requires.later))
      ];
    }

pub loop-k-init : goal.loop-k-init
loop-k-init c =
    record {
      followed = followed-first c.args.system.now c.args.trace.now c.args.schedule.now c.args.time c.args.replay.now.time c.args.so_far.now.opens.items c.args.so_far.now.count c.args.so_far.now.first c.requires.followed;
      same = λ r u below from before. absurd (omega (arith, below));
    }

pub returns : goal.returns
returns c =
    let s = c.args.system.now in
    let tr = c.args.trace.now in
    let end : c.loop-k.k ≡ length s.resources = omega (arith, c.loop-k-test.false, c.loop-k.auto.k-end, c.resources-k-end.ensures.count) in
    let h = subst (λ k. IsFollowed s tr c.args.schedule.now k c.args.time c.args.replay.now.time c.loop-k.so_far.opens.items c.loop-k.so_far.count c.loop-k.so_far.first) end c.loop-k.invariant.followed in
    followed-all s tr c.args.schedule.now c.args.time c.args.replay.now.time c.loop-k.so_far.opens.items c.loop-k.so_far.count c.loop-k.so_far.first c.requires.later
    (λ r u there from before. c.loop-k.invariant.same r u (omega (arith, there, end)) from before) h
