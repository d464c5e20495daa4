use Rattle.std.proofs.Common.{◌∙◌, ◌+◌, ◌<◌, ◌≤◌, ℕ, List, length, map, sym, ap, subst, arith}
use Rattle.cpa_model.specs.SystemLists.{places_of}
use Rattle.cpa_sched.specs.WaitingRanges.{CameSince, HasWaitingRange}
use Rattle.cpa_sched.specs.States.{Belongs, FrameWaits}
use Rattle.cpa_sim.specs.Arrivals.{listed}
use Rattle.cpa_sim.specs.Orders.{IsReached}
use Rattle.cpa_trace.specs.Trace.{phase_of}
use Rattle.cpa_sched.specs.Steps.{kind_of}
use Rattle.cpa_sim.specs.declared.dispatches.Dispatch.{Dispatch}
use Rattle.cpa_sim.specs.Simulation.{dispatch_at, no_dispatch, waiting, arrived, ready, state_now, Foresees, HasEnough}
use Rattle.cpa_sim.proofs.PlaceLaws.{below-more, above-same, came-back}
use Rattle.cpa_sim.proofs.dispatches.foresee_all.Goals as goal

pub loop-k-init : goal.loop-k-init
loop-k-init c = record {
  some = c.requires.some;
  most = omega arith;
  foresees = λ r less. absurd (omega arith);
  enough = λ r less. absurd (omega arith);
  reached = λ r less. absurd (omega arith);
  fits = λ r less. absurd (omega arith);
  same = λ r more. ap (λ (xs : List Dispatch). dispatch_at xs r) c.deref_mut-dispatch-items.ensures.value;
}

pub overflow_cast-res : goal.overflow_cast-res
overflow_cast-res c =
    let count = ap length c.deref_mut-dispatch-items.ensures.value ∙ c.requires.dispatches in
    omega (arith, c.loop-k-test.true, count, c.has_rules.ensures.few_resources)

pub foresee_more-requires-clause-waiters : goal.foresee_more-requires-clause-waiters
foresee_more-requires-clause-waiters c =
    let k = c.loop-k.k in
    let count = ap length c.deref_mut-dispatch-items.ensures.value ∙ c.requires.dispatches in
    let less : k < length c.args.system.now.resources = omega (arith, c.loop-k-test.true, count) in
    subst (λ (x : Dispatch). HasWaitingRange (places_of (listed (map (λ v. v.items) c.args.orders.now.items) k)) (waiting c.args.queues.now) x.waiters) (sym (c.loop-k.invariant.same k (omega arith))) (c.requires.reached k less).range

pub foresee_more-requires-clause-since : goal.foresee_more-requires-clause-since
foresee_more-requires-clause-since c =
    let s = c.args.system.now in
    let k = c.loop-k.k in
    let count = ap length c.deref_mut-dispatch-items.ensures.value ∙ c.requires.dispatches in
    let less : k < length s.resources = omega (arith, c.loop-k-test.true, count) in
    subst (λ (x : Dispatch). CameSince s k (waiting c.args.queues.now) (arrived c.args.queues.now) x.waiters.since) (sym (c.loop-k.invariant.same k (omega arith))) (c.requires.reached k less).since

pub foresee_more-requires-clause-belongs : goal.foresee_more-requires-clause-belongs
foresee_more-requires-clause-belongs c =
    let s = c.args.system.now in
    let k = c.loop-k.k in
    let count = ap length c.deref_mut-dispatch-items.ensures.value ∙ c.requires.dispatches in
    let less : k < length s.resources = omega (arith, c.loop-k-test.true, count) in
    subst (λ (x : Dispatch). Belongs s k (state_now (kind_of s k) x)) (sym (c.loop-k.invariant.same k (omega arith))) (c.requires.belongs k less)

pub foresee_more-requires-clause-frame : goal.foresee_more-requires-clause-frame
foresee_more-requires-clause-frame c =
    let s = c.args.system.now in
    let k = c.loop-k.k in
    let count = ap length c.deref_mut-dispatch-items.ensures.value ∙ c.requires.dispatches in
    let less : k < length s.resources = omega (arith, c.loop-k-test.true, count) in
    subst (λ (x : Dispatch). FrameWaits (kind_of s k) (state_now (kind_of s k) x) (waiting c.args.queues.now)) (sym (c.loop-k.invariant.same k (omega arith))) (c.requires.frames k less)

pub foresee_more-requires-clause-foresees : goal.foresee_more-requires-clause-foresees
foresee_more-requires-clause-foresees c =
    let s = c.args.system.now in
    let k = c.loop-k.k in
    let count = ap length c.deref_mut-dispatch-items.ensures.value ∙ c.requires.dispatches in
    let less : k < length s.resources = omega (arith, c.loop-k-test.true, count) in
    subst (λ (x : Dispatch). Foresees s k (state_now (kind_of s k) x) (ready s c.args.trace.now c.args.queues.now) c.args.now (phase_of c.args.trace.now k) x) (sym (c.loop-k.invariant.same k (omega arith))) (c.requires.foresees k less)

pub foresee_more-requires-clause-enough : goal.foresee_more-requires-clause-enough
foresee_more-requires-clause-enough c =
    let k = c.loop-k.k in
    let count = ap length c.deref_mut-dispatch-items.ensures.value ∙ c.requires.dispatches in
    let less : k < length c.args.system.now.resources = omega (arith, c.loop-k-test.true, count) in
    subst (λ (x : Dispatch). HasEnough c.args.queues.now x) (sym (c.loop-k.invariant.same k (omega arith))) (c.requires.enough k less)

pub loop-k-preserved : goal.loop-k-preserved
loop-k-preserved c =
    let s = c.args.system.now in
    let k = c.loop-k.k in
    let dispatches = c.loop-k.dispatch-items in
    let old = c.args.dispatches.now.items in
    let dispatch = c.foresee_more.new.dispatch in
    let there : k < length dispatches = omega (arith, c.loop-k-test.true) in
    let here = c.loop-k.invariant.same k (omega arith) in
    record {
      some = omega (arith, c.loop-k.invariant.some, c.foresee_more.ensures.some, c.min-ticks.ensures);
      most = omega (arith, c.loop-k.invariant.most, c.min-ticks.ensures);
      foresees = below-more (λ r (x : Dispatch). Foresees s r (state_now (kind_of s r) (dispatch_at old r)) (ready s c.args.trace.now c.args.queues.now) c.args.now (phase_of c.args.trace.now r) x) dispatches k dispatch no_dispatch there c.loop-k.invariant.foresees
          (subst (λ (x : Dispatch). Foresees s k (state_now (kind_of s k) x) (ready s c.args.trace.now c.args.queues.now) c.args.now (phase_of c.args.trace.now k) dispatch) here c.foresee_more.ensures.foresees);
      enough = below-more (λ r (x : Dispatch). HasEnough c.args.queues.now x) dispatches k dispatch no_dispatch there c.loop-k.invariant.enough c.foresee_more.ensures.enough;
      reached = below-more (λ r (x : Dispatch). IsReached s r (places_of (listed (map (λ v. v.items) c.args.orders.now.items) r)) c.args.queues.now x.waiters) dispatches k dispatch no_dispatch there c.loop-k.invariant.reached
          (record { range = c.foresee_more.ensures.waiters; since = c.foresee_more.ensures.since });
      fits = below-more (λ r (x : Dispatch). x.gone + c.min-ticks.result ≤ x.ticks) dispatches k dispatch no_dispatch there (λ r less. omega (arith, c.loop-k.invariant.fits r less, c.min-ticks.ensures)) (omega (arith, c.min-ticks.ensures, c.foresee_more.ensures.some));
      same = above-same old dispatches k dispatch no_dispatch c.loop-k.invariant.same;
    }

pub returns-whole : goal.returns-whole
returns-whole c =
    let s = c.args.system.now in
    let items = c.loop-k.dispatch-items in
    let count = ap length c.deref_mut-dispatch-items.ensures.value ∙ c.requires.dispatches in
    let whole = came-back c.args.dispatches.now.len items c.args.dispatches.now.items (c.loop-k.auto.dispatch-items ∙ c.deref_mut-dispatch-items.ensures.len) in
    let all : (r : ℕ) → r < length s.resources → r < c.loop-k.k = λ r less. omega (arith, less, c.loop-k-test.false, count) in
    rw (whole) (
      c.loop-k.auto.dispatch-items ∙ count,
      (
        (λ r less. c.loop-k.invariant.foresees r (all r less)),
        (
          (λ r less. c.loop-k.invariant.enough r (all r less)),
          (
            (λ r less. c.loop-k.invariant.reached r (all r less)),
            (
              c.loop-k.invariant.some,
              (
                c.loop-k.invariant.most,
                (λ r less. c.loop-k.invariant.fits r (all r less)),
              ),
            ),
          ),
        ),
      ),
    )
