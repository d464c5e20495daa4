use Rattle.std.proofs.Common.{◌≡◌, ◌≢◌, ◌∙◌, ◌+◌, ◌<◌, ◌≤◌, ℕ, List, length, nat_le, Some, refl, ap, sym, subst, inl, inr, arith}
use Rattle.std.proofs.lemmas.Bool.{cases_lt, eqb-true}
use Rattle.cpa_units.specs.Sets.{holds}
use Rattle.cpa_model.specs.SystemLists.{task_at}
use Rattle.cpa_sched.specs.States.{Belongs, IsWaiting, seen}
use Rattle.cpa_sched.specs.Steps.{kind_of}
use Rattle.cpa_sim.specs.declared.dispatches.Dispatch.{Dispatch}
use Rattle.cpa_trace.specs.Trace.{need}
use Rattle.cpa_sim.specs.JobQueues.{QueueCounts, has_pending, served_queue}
use Rattle.cpa_sim.specs.Simulation.{queue_at, dispatch_at, no_dispatch, runner, runs_at, waiting, state_by, IsServed}
use Rattle.cpa_sim.proofs.PlaceLaws.{below-more, above-same, came-back}
use Rattle.cpa_sim.proofs.DispatchLaws.{runs-elsewhere, with-this, with-other}
use Rattle.cpa_sim.proofs.dispatches.serve_all.Goals as goal

pub loop-k-init : goal.loop-k-init
loop-k-init c = record {
  count = c.requires.queues;
  ran = λ i task less. absurd (omega arith);
  still = λ i task more. refl;
  served = λ r less. absurd (omega arith);
  ended = λ r less. absurd (omega arith);
  past = λ r more. c.none-ended.ensures r;
  same = λ r more. ap (λ (xs : List Dispatch). dispatch_at xs r) c.deref_mut-dispatch-items.ensures.value;
}

pub overflow_cast-res : goal.overflow_cast-res
overflow_cast-res c =
    let count = ap length c.deref_mut-dispatch-items.ensures.value ∙ c.requires.dispatches in
    omega (arith, c.loop-k-test.true, count, c.has_rules.ensures.few_resources)

pub serve-ends-requires-clause-fits : goal.serve-ends-requires-clause-fits
serve-ends-requires-clause-fits c =
    let k = c.loop-k.k in
    let count = ap length c.deref_mut-dispatch-items.ensures.value ∙ c.requires.dispatches in
    let less : k < length c.args.system.now.resources = omega (arith, c.loop-k-test.true, count) in
    subst (λ (x : Dispatch). x.gone + c.args.ticks ≤ x.ticks) (sym (c.loop-k.invariant.same k (omega arith))) (c.requires.fits k less)

pub serve-ends-requires-clause-belongs : goal.serve-ends-requires-clause-belongs
serve-ends-requires-clause-belongs c =
    let s = c.args.system.now in
    let k = c.loop-k.k in
    let count = ap length c.deref_mut-dispatch-items.ensures.value ∙ c.requires.dispatches in
    let less : k < length s.resources = omega (arith, c.loop-k-test.true, count) in
    subst (λ (x : Dispatch). Belongs s k (state_by (kind_of s k) (runner x) (seen x.state) (x.gone + c.args.ticks))) (sym (c.loop-k.invariant.same k (omega arith))) (c.requires.belongs k less)

pub serve-ends-requires-clause-waits : goal.serve-ends-requires-clause-waits
serve-ends-requires-clause-waits c = λ i e.
    let s = c.args.system.now in
    let k = c.loop-k.k in
    let count = ap length c.deref_mut-dispatch-items.ensures.value ∙ c.requires.dispatches in
    let less : k < length s.resources = omega (arith, c.loop-k-test.true, count) in
    let here = c.loop-k.invariant.same k (omega arith) in
    let h = c.requires.waits k i less (sym (ap runner here) ∙ e) in
    let on : (task_at s i).res.0 ≡ k = eqb-true (task_at s i).res.0 k h.on.here in
    let same = c.loop-k.invariant.still i h.on.task (omega (arith, on)) in
    record { on = h.on; waits_now = ap has_pending same ∙ h.waits_now }

pub loop-k-preserved : goal.loop-k-preserved
loop-k-preserved c =
    let s = c.args.system.now in
    let tr = c.args.trace.now in
    let k = c.loop-k.k in
    let dispatches = c.loop-k.dispatch-items in
    let queues = c.loop-k.queues.items in
    let old = c.args.dispatches.now.items in
    let first = c.args.queues.now.items in
    let inv = c.loop-k.invariant in
    let dispatch = c.serve-ends.new.dispatch in
    let count = ap length c.deref_mut-dispatch-items.ensures.value ∙ c.requires.dispatches in
    let low : k < length s.resources = omega (arith, c.loop-k-test.true, count) in
    let there : k < length dispatches = omega (arith, c.loop-k-test.true) in
    let here = inv.same k (omega arith) in
    let more = c.with_if-ended.ensures in
    let waits : (i : ℕ) → runner (dispatch_at old k) ≡ Some i → IsWaiting s k (waiting first) i = λ i e. c.requires.waits k i low e in
    let queue : (i : ℕ) → queue_at c.serve-ends.new.queues.items i ≡ served_queue (need s tr i) (runs_at (dispatch_at old k) i) c.args.ticks c.args.now (queue_at queues i) = λ i. subst (λ (x : Dispatch). queue_at c.serve-ends.new.queues.items i ≡ served_queue (need s tr i) (runs_at x i) c.args.ticks c.args.now (queue_at queues i)) here (c.serve-ends.ensures.queues i) in
    let elsewhere : (i : ℕ) → (task_at s i).res.0 ≢ k → queue_at c.serve-ends.new.queues.items i ≡ queue_at queues i = λ i differs. queue i ∙ ap (λ b. served_queue (need s tr i) b c.args.ticks c.args.now (queue_at queues i)) (runs-elsewhere s k i (waiting first) (dispatch_at old k) waits differs) in
    record {
      count = c.serve-ends.ensures.count;
      ran = λ i task less.
          elim (cases_lt (task_at s i).res.0 k) [
            | inl before ↦ elsewhere i (λ e. absurd (omega arith)) ∙ inv.ran i task before
            | inr after ↦
                let on : k ≡ (task_at s i).res.0 = omega arith in
                queue i
                ∙ (ap (λ r. served_queue (need s tr i) (runs_at (dispatch_at old r) i) c.args.ticks c.args.now (queue_at queues i)) on
                ∙ ap (served_queue (need s tr i) (runs_at (dispatch_at old (task_at s i).res.0) i) c.args.ticks c.args.now) (inv.still i task after))
          ];
      still = λ i task more. elsewhere i (λ e. absurd (omega arith)) ∙ inv.still i task (omega arith);
      served = below-more (λ r (x : Dispatch). IsServed s r first c.args.ticks (dispatch_at old r) x) dispatches k dispatch no_dispatch there inv.served
          (let h = subst (λ (x : Dispatch). IsServed s k queues c.args.ticks x dispatch) here c.serve-ends.ensures.served in
          record {
            running = h.running;
            ends = λ i e.
                let p = waits i e in
                let on : (task_at s i).res.0 ≡ k = eqb-true (task_at s i).res.0 k p.on.here in
                h.ends i e ∙ ap (λ (l : QueueCounts). nat_le l.left c.args.ticks) (inv.still i p.on.task (omega (arith, on)));
            state = h.state;
            unchanged = h.unchanged;
            waiters = h.waiters;
          });
      ended = below-more (λ r (x : Dispatch). holds c.with_if-ended.result r ≡ x.ends) dispatches k dispatch no_dispatch there (λ r less. more r ∙ (with-other k r c.serve-ends.result (holds c.loop-k.ended r) (λ e. absurd (omega (arith, e, less))) ∙ inv.ended r less))
          (more k ∙ (with-this k c.serve-ends.result (holds c.loop-k.ended k) (inv.past k (omega arith)) ∙ c.serve-ends.ensures.ends));
      past = λ r after. more r ∙ (with-other k r c.serve-ends.result (holds c.loop-k.ended r) (λ e. absurd (omega (arith, e, after))) ∙ inv.past r (omega (arith, after)));
      same = above-same old dispatches k dispatch no_dispatch inv.same;
    }

pub returns-whole : goal.returns-whole
returns-whole c =
    let s = c.args.system.now in
    let count = ap length c.deref_mut-dispatch-items.ensures.value ∙ c.requires.dispatches in
    let whole = came-back c.args.dispatches.now.len c.loop-k.dispatch-items c.args.dispatches.now.items (c.loop-k.auto.dispatch-items ∙ c.deref_mut-dispatch-items.ensures.len) in
    let all : (r : ℕ) → r < length s.resources → r < c.loop-k.k = λ r less. omega (arith, less, c.loop-k-test.false, count) in
    let items = c.loop-k.dispatch-items in
    let long : length items ≡ length s.resources = c.loop-k.auto.dispatch-items ∙ count in
    rw (whole) (
      c.loop-k.invariant.count,
      (
        long,
        (
          (λ i task. c.loop-k.invariant.ran i task (all (task_at s i).res.0 (c.requires.placed i task))),
          (
            (λ r less. c.loop-k.invariant.served r (all r less)),
            record {
              there = λ r less. c.loop-k.invariant.ended r (all r (omega (arith, less, long)));
              past = λ r more. c.loop-k.invariant.past r (omega (arith, more, c.loop-k.auto.k-end, c.loop-k.auto.dispatch-items));
            },
          ),
        ),
      ),
    )
