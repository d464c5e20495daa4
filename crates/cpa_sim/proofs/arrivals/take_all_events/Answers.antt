use Rattle.std.proofs.Common.{◌≡◌, ℕ, ◌∙◌, ◌+◌, ◌++◌, ◌<◌, ◌≤◌, List, length, sym, ap, subst, arith}
use Rattle.std.proofs.lemmas.Bool.{false≢true}
use Rattle.cpa_units.proofs.PlaceLaws.{flat_map-places_more}
use Rattle.cpa_trace.specs.Trace.{times_of}
use Rattle.cpa_sim.specs.declared.source_cursors.SourceCursor.{SourceCursor}
use Rattle.cpa_sim.specs.declared.jobs.Cause.{Cause}
use Rattle.cpa_sim.specs.Run.{by_source, by_sources}
use Rattle.cpa_sim.specs.SourceCursors.{no_cursor, IsPassed, IsAhead}
use Rattle.cpa_sim.specs.JobQueues.{QueueCounts}
use Rattle.cpa_sim.specs.Simulation.{queue_at, cursor_at}
use Rattle.cpa_sim.proofs.PlaceLaws.{below-more, above-same, came-back}
use Rattle.cpa_sim.proofs.RangeLaws.{part-le}
use Rattle.cpa_sim.proofs.ArrivalLaws.{fed_below, length-fed, given-none, given-same, given-then}
use Rattle.cpa_sim.proofs.SuccessorLaws.{placed}
use Rattle.cpa_sim.proofs.KeptLaws.{arrived-kept}
use Rattle.cpa_sim.proofs.arrivals.take_all_events.Goals as goal

-- what has arrived so far and arrives now is part of what arrives in all
pub take_event-requires-clause-few : goal.take_event-requires-clause-few
take_event-requires-clause-few c = λ i there cursors.
    let s = c.args.context.now.system.now in
    let tr = c.args.context.now.trace.now in
    let now = c.args.now in
    let k = c.loop-k.k in
    let so_far = ap (λ (l : QueueCounts). l.count) (c.loop-k.invariant.given.arrived i there) in
    let room = ap (λ (l : QueueCounts). l.room) (c.loop-k.invariant.given.arrived i there) in
    let count = ap length c.deref_mut-cursor-items.ensures.value ∙ c.requires.cursors in
    let low : k < length s.sources = omega (arith, c.loop-k-test.true, count) in
    omega (arith, so_far, room, length-fed s tr now i k cursors, part-le (λ q. by_source s tr now q i) k (length s.sources) low, c.requires.few i there)

pub overflow_cast-source : goal.overflow_cast-source
overflow_cast-source c =
    let count = ap length c.deref_mut-cursor-items.ensures.value ∙ c.requires.cursors in
    omega (arith, c.loop-k-test.true, count, c.has_rules.ensures.few_sources)

pub loop-k-init : goal.loop-k-init
loop-k-init c =
    record {
      given = given-none c.args.context.now.system.now c.args.context.now.places.now.items c.args.now c.args.queues.now.items c.args.dispatches.now.items c.requires.queues c.requires.dispatches;
      later = omega (arith, c.requires.horizon);
      soonest = λ i less. absurd (omega arith);
      ahead = λ i less. absurd (omega arith);
      passed = λ i less. absurd (omega arith);
      same = λ i low. ap (λ (xs : List SourceCursor). cursor_at xs i) c.deref_mut-cursor-items.ensures.value;
    }

pub loop-k-preserved : goal.loop-k-preserved
loop-k-preserved c =
    let s = c.args.context.now.system.now in
    let tr = c.args.context.now.trace.now in
    let now = c.args.now in
    let k = c.loop-k.k in
    let inv = c.loop-k.invariant in
    let cursors = c.loop-k.cursor-items in
    let old = c.args.cursors.now.items in
    let cursor = c.in_ok-cursor.field-0 in
    let l0 = c.args.queues.now.items in
    let d0 = c.args.dispatches.now.items in
    let there : k < length cursors = omega (arith, c.loop-k-test.true) in
    let whole = given-then s c.args.context.now.places.now.items now (placed s c.has_rules.ensures) (λ i. fed_below s tr now i k) (by_source s tr now k) l0 d0 c.loop-k.queues.items c.loop-k.dispatches.items c.take_event.new.queues.items c.take_event.new.dispatches.items inv.given c.in_ok-cursor.ensures.given in
    record {
      given = given-same s c.args.context.now.places.now.items now (λ i. fed_below s tr now i k ++ by_source s tr now k i) (λ i. fed_below s tr now i (k + 1)) l0 d0 c.take_event.new.queues.items c.take_event.new.dispatches.items whole (λ i less. sym (flat_map-places_more (λ q. by_source s tr now q i) k));
      later = omega (arith, inv.later, c.in_ok-cursor.ensures.later, c.min-next_event.ensures);
      soonest = below-more (λ i (x : SourceCursor). c.min-next_event.result ≤ x.time) cursors k cursor no_cursor there (λ i less. omega (arith, inv.soonest i less, c.min-next_event.ensures)) (omega (arith, c.min-next_event.ensures));
      ahead = below-more (λ i (x : SourceCursor). IsAhead (times_of tr i) x.time x.next) cursors k cursor no_cursor there inv.ahead c.in_ok-cursor.ensures.ahead;
      passed = below-more (λ i (x : SourceCursor). IsPassed (times_of tr i) now x.next) cursors k cursor no_cursor there inv.passed c.in_ok-cursor.ensures.passed;
      same = above-same old cursors k cursor no_cursor inv.same;
    }

pub take_event-requires-clause-next_event : goal.take_event-requires-clause-next_event
take_event-requires-clause-next_event c =
    let k = c.loop-k.k in
    let count = ap length c.deref_mut-cursor-items.ensures.value ∙ c.requires.cursors in
    let low : k < length c.args.context.now.system.now.sources = omega (arith, c.loop-k-test.true, count) in
    subst (λ (x : SourceCursor). c.args.now ≤ x.time) (sym (c.loop-k.invariant.same k (omega arith))) (c.requires.next_event k low)

pub take_event-requires-clause-ahead : goal.take_event-requires-clause-ahead
take_event-requires-clause-ahead c =
    let k = c.loop-k.k in
    let count = ap length c.deref_mut-cursor-items.ensures.value ∙ c.requires.cursors in
    let low : k < length c.args.context.now.system.now.sources = omega (arith, c.loop-k-test.true, count) in
    subst (λ (x : SourceCursor). IsAhead (times_of c.args.context.now.trace.now k) x.time x.next) (sym (c.loop-k.invariant.same k (omega arith))) (c.requires.ahead k low)

pub take_event-requires-clause-passed : goal.take_event-requires-clause-passed
take_event-requires-clause-passed c =
    let k = c.loop-k.k in
    let count = ap length c.deref_mut-cursor-items.ensures.value ∙ c.requires.cursors in
    let low : k < length c.args.context.now.system.now.sources = omega (arith, c.loop-k-test.true, count) in
    subst (λ (x : SourceCursor). c.args.now < x.time → IsPassed (times_of c.args.context.now.trace.now k) c.args.now x.next) (sym (c.loop-k.invariant.same k (omega arith))) (c.requires.passed k low)

pub take_event-requires-clause-silent : goal.take_event-requires-clause-silent
take_event-requires-clause-silent c = λ later.
    let k = c.loop-k.k in
    let count = ap length c.deref_mut-cursor-items.ensures.value ∙ c.requires.cursors in
    let low : k < length c.args.context.now.system.now.sources = omega (arith, c.loop-k-test.true, count) in
    c.requires.silent k low (subst (λ (x : SourceCursor). c.args.now < x.time) (c.loop-k.invariant.same k (omega arith)) later)

pub returns-in_err-cursor-clause-memory : goal.returns-in_err-cursor-clause-memory
returns-in_err-cursor-clause-memory c = λ unkept.
    let l0 = c.args.queues.now.items in
    let new : ℕ → List Cause = λ i. fed_below c.args.context.now.system.now c.args.context.now.trace.now c.args.now i c.loop-k.k in
    absurd (false≢true (c.in_err-cursor.ensures.memory (λ i less. ap (λ (l : QueueCounts). l.kept) (c.loop-k.invariant.given.arrived i less) ∙ arrived-kept c.args.now (new i) (queue_at l0 i) (unkept i less))))

pub returns-clause-given : goal.returns-clause-given
returns-clause-given c =
    let s = c.args.context.now.system.now in
    let tr = c.args.context.now.trace.now in
    let now = c.args.now in
    let k = c.loop-k.k in
    let count = ap length c.deref_mut-cursor-items.ensures.value ∙ c.requires.cursors in
    let all : k ≡ length s.sources = omega (arith, c.loop-k-test.false, c.loop-k.auto.k-end, count) in
    given-same s c.args.context.now.places.now.items now (λ i. fed_below s tr now i k) (by_sources s tr now) c.args.queues.now.items c.args.dispatches.now.items c.loop-k.queues.items c.loop-k.dispatches.items c.loop-k.invariant.given
    (λ i less. ap (fed_below s tr now i) all)

pub returns-clause-count : goal.returns-clause-count
returns-clause-count c =
    let count = ap length c.deref_mut-cursor-items.ensures.value ∙ c.requires.cursors in
    let whole = came-back c.args.cursors.now.len c.loop-k.cursor-items c.args.cursors.now.items (c.loop-k.auto.cursor-items ∙ c.deref_mut-cursor-items.ensures.len) in
    rw (whole) (c.loop-k.auto.cursor-items ∙ count)

pub returns-clause-passed : goal.returns-clause-passed
returns-clause-passed c =
    let count = ap length c.deref_mut-cursor-items.ensures.value ∙ c.requires.cursors in
    let whole = came-back c.args.cursors.now.len c.loop-k.cursor-items c.args.cursors.now.items (c.loop-k.auto.cursor-items ∙ c.deref_mut-cursor-items.ensures.len) in
    let all : (i : ℕ) → i < length c.args.context.now.system.now.sources → i < c.loop-k.k = λ i less. omega (arith, less, c.loop-k-test.false, count) in
    rw (whole) (λ i less. c.loop-k.invariant.passed i (all i less))

pub returns-clause-next_event : goal.returns-clause-next_event
returns-clause-next_event c =
    let count = ap length c.deref_mut-cursor-items.ensures.value ∙ c.requires.cursors in
    let whole = came-back c.args.cursors.now.len c.loop-k.cursor-items c.args.cursors.now.items (c.loop-k.auto.cursor-items ∙ c.deref_mut-cursor-items.ensures.len) in
    let all : (i : ℕ) → i < length c.args.context.now.system.now.sources → i < c.loop-k.k = λ i less. omega (arith, less, c.loop-k-test.false, count) in
    let inv = c.loop-k.invariant in
    rw (whole) record {
      later = inv.later;
      soonest = λ i less. inv.soonest i (all i less);
      ahead = λ i less. inv.ahead i (all i less);
    }
