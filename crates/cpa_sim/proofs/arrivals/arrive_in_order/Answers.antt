use Rattle.std.proofs.Common.{◌≡◌, ◌∙◌, ◌+◌, ◌++◌, ◌<◌, ℕ, length, [], Option, option_map, sym, ap, subst, arith}
use Rattle.cpa_units.proofs.PlaceLaws.{flat_map-places_more}
use Rattle.cpa_model.specs.SystemLists.{place_of}
use Rattle.cpa_sim.specs.Run.{by_task, by_tasks}
use Rattle.cpa_sim.specs.JobQueues.{QueueCounts}
use Rattle.cpa_sim.specs.Simulation.{queue_at, dispatch_at, runner, ends_of}
use Rattle.cpa_sim.specs.Arrivals.{AreGiven, ended_of, by_last}
use Rattle.cpa_sim.proofs.RangeLaws.{part-le}
use Rattle.cpa_sim.proofs.SuccessorLaws.{placed}
use Rattle.cpa_sim.proofs.DispatchLaws.{ends-unchanged, ending-unchanged}
use Rattle.cpa_sim.proofs.ArrivalLaws.{given-none, given-same, given-then, upto, upto-none, started_below, quiet-before, started-one}
use Rattle.cpa_sim.proofs.SingleLaws.{by-last-is}
use Rattle.cpa_sim.proofs.arrivals.arrive_in_order.Goals as goal

pub next_end-next-requires-clause-runs : goal.next_end-next-requires-clause-runs
next_end-next-requires-clause-runs c = λ r j there e. c.requires.runs r j there (ap (λ ds. runner (dispatch_at ds r)) (sym c.as_slice.ensures.value) ∙ e)

pub ends-init : goal.ends-init
ends-init c =
    let s = c.args.system.now in
    let l0 = c.args.queues.now.items in
    let d0 = c.args.dispatches.now.items in
    let next = option_map place_of c.next_end-next.result in
    let first = c.next_end-next.ensures in
    let same = c.as_slice.ensures.value in
    record {
      there = first.there;
      ends = λ j e. ap (λ ds. ends_of s ds j) (sym same) ∙ first.ends j e;
      given = given-same s c.args.places.now.items c.args.now (λ i. []) (λ i. started_below s l0 d0 i (upto (length s.tasks) next)) l0 d0 l0 d0 (given-none s c.args.places.now.items c.args.now l0 d0 c.requires.queues c.requires.dispatches)
          (λ i less. quiet-before s l0 d0 i 0 next (omega arith) (λ j low there before. ap (λ ds. ends_of s ds j) (sym same) ∙ first.none j low there before) first.from_on first.there);
    }

pub arrive_by_last-requires-clause-there : goal.arrive_by_last-requires-clause-there
arrive_by_last-requires-clause-there c = c.ends.invariant.there c.in-Some.task.0 (ap (option_map place_of) c.in-Some.is)

-- what has come so far and comes now is part of what comes in all
pub arrive_by_last-requires-clause-few : goal.arrive_by_last-requires-clause-few
arrive_by_last-requires-clause-few c = λ i less activates.
    let s = c.args.system.now in
    let t = c.in-Some.task.0 in
    let l0 = c.args.queues.now.items in
    let d0 = c.args.dispatches.now.items in
    let inv = c.ends.invariant in
    let there = inv.there t (ap (option_map place_of) c.in-Some.is) in
    let here : AreGiven s c.args.places.now.items c.args.now (λ i. started_below s l0 d0 i t) l0 d0 c.ends.queues.items c.ends.dispatches.items =
    subst (λ (o : Option ℕ). AreGiven s c.args.places.now.items c.args.now (λ i. started_below s l0 d0 i (upto (length s.tasks) o)) l0 d0 c.ends.queues.items c.ends.dispatches.items) (ap (option_map place_of) c.in-Some.is) inv.given in
    let so_far = ap (λ (l : QueueCounts). l.count) (here.arrived i less) in
    let room = ap (λ (l : QueueCounts). l.room) (here.arrived i less) in
    let one = started-one s l0 d0 i t (inv.ends t (ap (option_map place_of) c.in-Some.is)) activates in
    omega (arith, so_far, room, one, part-le (λ j. by_task s (ended_of s l0 d0) j i) t (length s.tasks) there, c.requires.few i less)

pub next_end-next-requires-in-Some-clause-ended : goal.next_end-next-requires-in-Some-clause-ended
next_end-next-requires-in-Some-clause-ended c =
    let given = c.in_ok-arrive_by_last.ensures.given in
    let before = c.ends.invariant.given in
    rw c.as_slice-in-Some.ensures.value
    (ending-unchanged c.args.system.now c.args.dispatches.now.items c.arrive_by_last.new.dispatches.items c.args.ended c.requires.dispatches given.count_dispatches
    (λ r there. (given.unchanged r there).ends ∙ (before.unchanged r there).ends) c.requires.ended)

pub next_end-next-requires-in-Some-clause-runs : goal.next_end-next-requires-in-Some-clause-runs
next_end-next-requires-in-Some-clause-runs c = λ r j there e.
    let before = (c.ends.invariant.given.unchanged r there).running in
    let now = (c.in_ok-arrive_by_last.ensures.given.unchanged r there).running in
    c.requires.runs r j there (sym (ap (option_map place_of) (now ∙ before)) ∙ (ap (λ ds. runner (dispatch_at ds r)) (sym c.as_slice-in-Some.ensures.value) ∙ e))

pub ends-preserved : goal.ends-preserved
ends-preserved c =
    let s = c.args.system.now in
    let time = c.args.now in
    let t = c.in-Some.task.0 in
    let l0 = c.args.queues.now.items in
    let d0 = c.args.dispatches.now.items in
    let l1 = c.ends.queues.items in
    let d1 = c.ends.dispatches.items in
    let l2 = c.arrive_by_last.new.queues.items in
    let d2 = c.arrive_by_last.new.dispatches.items in
    let inv = c.ends.invariant in
    let there = inv.there t (ap (option_map place_of) c.in-Some.is) in
    let one = inv.ends t (ap (option_map place_of) c.in-Some.is) in
    let here : AreGiven s c.args.places.now.items time (λ i. started_below s l0 d0 i t) l0 d0 l1 d1 =
    subst (λ (o : Option ℕ). AreGiven s c.args.places.now.items time (λ i. started_below s l0 d0 i (upto (length s.tasks) o)) l0 d0 l1 d1) (ap (option_map place_of) c.in-Some.is) inv.given in
    let done : (queue_at l1 t).done ≡ (queue_at l0 t).done = ap (λ (l : QueueCounts). l.done) (here.arrived t there) in
    let both = given-then s c.args.places.now.items time (placed s c.has_rules.ensures) (λ i. started_below s l0 d0 i t) (by_last s l1 t) l0 d0 l1 d1 l2 d2 here c.in_ok-arrive_by_last.ensures.given in
    let next = option_map place_of c.next_end-next-in-Some.result in
    let found = c.next_end-next-in-Some.ensures in
    let same = c.as_slice-in-Some.ensures.value in
    let ends : (j : ℕ) → j < length s.tasks → ends_of s d0 j ≡ ends_of s c.as_slice-in-Some.result.now j =
    λ j low. sym (ap (λ ds. ends_of s ds j) same ∙ ends-unchanged s d0 d2 both.unchanged j (placed s c.has_rules.ensures j low)) in
    record {
      there = found.there;
      ends = λ j e. ends j (found.there j e) ∙ found.ends j e;
      given = given-same s c.args.places.now.items time (λ i. started_below s l0 d0 i t ++ by_last s l1 t i) (λ i. started_below s l0 d0 i (upto (length s.tasks) next)) l0 d0 l2 d2 both
          (λ i less.
          ap (λ cs. started_below s l0 d0 i t ++ cs) (by-last-is s l0 l1 d0 t i one done)
          ∙ (sym (flat_map-places_more (λ j. by_task s (ended_of s l0 d0) j i) t)
          ∙ quiet-before s l0 d0 i (t + 1) next (omega (arith, there)) (λ j low high before. ends j high ∙ found.none j (omega (arith, low, c.from-from.ensures)) high before) (λ j e. omega (arith, found.from_on j e, c.from-from.ensures)) found.there));
    }

pub returns-clause-given : goal.returns-clause-given
returns-clause-given c =
    let s = c.args.system.now in
    let l0 = c.args.queues.now.items in
    let d0 = c.args.dispatches.now.items in
    let next = option_map place_of c.ends.next in
    given-same s c.args.places.now.items c.args.now (λ i. started_below s l0 d0 i (upto (length s.tasks) next)) (by_tasks s (ended_of s l0 d0)) l0 d0 c.ends.queues.items c.ends.dispatches.items c.ends.invariant.given
    (λ i less. ap (started_below s l0 d0 i) (upto-none (length s.tasks) c.ends.next c.in_default.not-Some))
