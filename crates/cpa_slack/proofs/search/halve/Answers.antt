use Rattle.std.proofs.Common.{◌≡◌, ◌+◌, ◌-◌, ◌/◌, ◌∙◌, ℕ, sym, ap, subst, inl, arith}
use Rattle.std.proofs.lemmas.Bool.{false≢true}
use Rattle.cpa_model.specs.SystemLists.{SystemLists}
use Rattle.cpa_local.specs.Solution.{least_of}
use Rattle.cpa_local.proofs.TrailLaws.{IsKept_refl, IsKept_trans}
use Rattle.cpa_slack.specs.Slack.{longer, Holds}
use Rattle.cpa_slack.proofs.SlackLaws.{longer-none, longer-long, starts, most-found, fresh_longer}
use Rattle.cpa_slack.proofs.search.halve.Goals as goal

pub loop-past-init : goal.loop-past-init
loop-past-init g c =
    let s : SystemLists = c.args.growth.now.system.now in
    let none : longer s c.args.growth.now.task.0 0 ≡ s = longer-none s c.args.growth.now.task.0 c.args.growth.now.there in
    record {
      tried = c.requires.longer;
      least_held = c.requires.held ∙ ap least_of (sym none);
      below = omega arith;
      top = omega arith;
      holds = subst Holds (sym none) c.requires.holds;
      fails = λ le. absurd (omega (arith, le));
      kept = IsKept_refl c.args.trail.now;
      fresh = λ i marked. inl marked;
      room = c.requires.room;
    }

pub holds_longer-requires-clause-vector : goal.holds_longer-requires-clause-vector
holds_longer-requires-clause-vector g c κs within =
    let s : SystemLists = c.args.growth.now.system.now in
    let i : ℕ = c.args.growth.now.task.0 in
    let inv = c.loop-past.invariant in
    let m : ℕ = c.loop-past.holding + (c.loop-past.past - c.loop-past.holding) / 2 in
    rw (c.lengthen.ensures, inv.least_held)
    (starts s i c.loop-past.holding m c.has_rules.ensures c.args.growth.now.there (omega arith) (omega (arith, c.args.growth.now.in_range, inv.below, inv.top))).0

pub holds_longer-requires-clause-below : goal.holds_longer-requires-clause-below
holds_longer-requires-clause-below g c κs within =
    let s : SystemLists = c.args.growth.now.system.now in
    let i : ℕ = c.args.growth.now.task.0 in
    let inv = c.loop-past.invariant in
    let m : ℕ = c.loop-past.holding + (c.loop-past.past - c.loop-past.holding) / 2 in
    rw (c.lengthen.ensures, inv.least_held)
    (starts s i c.loop-past.holding m c.has_rules.ensures c.args.growth.now.there (omega arith) (omega (arith, c.args.growth.now.in_range, inv.below, inv.top))).1

pub holds_longer-requires-clause-room : goal.holds_longer-requires-clause-room
holds_longer-requires-clause-room g c κs within =
    let m : ℕ = c.loop-past.holding + (c.loop-past.past - c.loop-past.holding) / 2 in
    rw (c.lengthen.ensures, longer-long c.args.growth.now.system.now c.args.growth.now.task.0 m) c.loop-past.invariant.room

pub returns-in_err-holds_longer-clause-fresh : goal.returns-in_err-holds_longer-clause-fresh
returns-in_err-holds_longer-clause-fresh g c =
    let m : ℕ = c.loop-past.holding + (c.loop-past.past - c.loop-past.holding) / 2 in
    fresh_longer c.args.growth.now.system.now c.lengthen.new.copy c.args.growth.now.task.0 m c.lengthen.ensures
    c.args.trail.now c.loop-past.trail c.holds_longer.new.trail c.loop-past.invariant.fresh c.holds_longer.ensures.fresh

pub loop-past-preserved-then-branch : goal.loop-past-preserved-then-branch
loop-past-preserved-then-branch g c =
    let s : SystemLists = c.args.growth.now.system.now in
    let inv = c.loop-past.invariant in
    let m : ℕ = c.loop-past.holding + (c.loop-past.past - c.loop-past.holding) / 2 in
    let held : c.holds_longer.new.trial.held ≡ least_of c.lengthen.new.copy = rw c.if-branch.true at c.in_ok-holds_longer.ensures.held in
    record {
      tried = (m, rw c.holds_longer.ensures.system c.lengthen.ensures);
      least_held = rw (held, c.lengthen.ensures);
      below = omega arith;
      top = inv.top;
      holds = rw (← c.lengthen.ensures) (c.in_ok-holds_longer.ensures.holds.0 c.if-branch.true);
      fails = inv.fails;
      kept = IsKept_trans c.args.trail.now c.loop-past.trail c.holds_longer.new.trail inv.kept c.holds_longer.ensures.kept;
      fresh = fresh_longer s c.lengthen.new.copy c.args.growth.now.task.0 m c.lengthen.ensures c.args.trail.now c.loop-past.trail c.holds_longer.new.trail inv.fresh c.holds_longer.ensures.fresh;
      room = omega (arith, inv.room, c.holds_longer.ensures.kept.room);
    }

pub loop-past-preserved : goal.loop-past-preserved
loop-past-preserved g c =
    let s : SystemLists = c.args.growth.now.system.now in
    let inv = c.loop-past.invariant in
    let m : ℕ = c.loop-past.holding + (c.loop-past.past - c.loop-past.holding) / 2 in
    let held : c.holds_longer.new.trial.held ≡ c.loop-past.trial.held = rw c.if-branch.false at c.in_ok-holds_longer.ensures.held in
    record {
      tried = (m, rw c.holds_longer.ensures.system c.lengthen.ensures);
      least_held = rw held inv.least_held;
      below = omega arith;
      top = omega (arith, inv.below, inv.top);
      holds = inv.holds;
      fails = λ le it. false≢true (sym c.if-branch.false ∙ c.in_ok-holds_longer.ensures.holds.1 (rw c.lengthen.ensures it));
      kept = IsKept_trans c.args.trail.now c.loop-past.trail c.holds_longer.new.trail inv.kept c.holds_longer.ensures.kept;
      fresh = fresh_longer s c.lengthen.new.copy c.args.growth.now.task.0 m c.lengthen.ensures c.args.trail.now c.loop-past.trail c.holds_longer.new.trail inv.fresh c.holds_longer.ensures.fresh;
      room = omega (arith, inv.room, c.holds_longer.ensures.kept.room);
    }

pub returns-clause-found : goal.returns-clause-found
returns-clause-found g c =
    let inv = c.loop-past.invariant in
    most-found c.args.growth.now.system.now c.args.growth.now.task.0 c.args.growth.now.most c.loop-past.holding c.loop-past.past c.has_rules.ensures c.args.growth.now.there c.args.growth.now.in_range
    inv.below (omega (arith, c.loop-past-test.false)) inv.top inv.holds inv.fails
