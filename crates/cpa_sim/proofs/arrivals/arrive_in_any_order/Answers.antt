use Rattle.std.proofs.Common.{◌≡◌, ◌∙◌, ◌+◌, ◌++◌, ◌<◌, ℕ, length, [], Option, Some, option_map, sym, ap, subst, arith}
use Rattle.std.proofs.lemmas.List.{get_or_read}
use Rattle.cpa_units.specs.declared.places.ResId.{ResId}
use Rattle.cpa_units.proofs.PlaceLaws.{flat_map-places_more}
use Rattle.cpa_model.specs.SystemLists.{place_of}
use Rattle.cpa_sched.specs.Steps.{kind_of}
use Rattle.cpa_sim.specs.JobQueues.{QueueCounts}
use Rattle.cpa_sim.specs.Simulation.{no_dispatch, dispatch_at, runner}
use Rattle.cpa_sim.specs.Run.{by_tasks}
use Rattle.cpa_sim.specs.Arrivals.{AreGiven, ended_of}
use Rattle.cpa_sim.proofs.RangeLaws.{part-le}
use Rattle.cpa_sim.proofs.SuccessorLaws.{placed}
use Rattle.cpa_sim.proofs.ArrivalLaws.{given-none, given-same, given-then, upto_resource, upto-all, next-there}
use Rattle.cpa_sim.proofs.SingleLaws.{nobody-ended, ended_task, by_ended, ended_below, ended-unchanged, ended-one, ended-all, ended-upto, by-ended-same}
use Rattle.cpa_sim.proofs.arrivals.arrive_in_any_order.Goals.{in-Some-ended_on+in_ok-arrive_by_last, in_default-ended_on}
use Rattle.cpa_sim.proofs.arrivals.arrive_in_any_order.Goals as goal

pub arrive_by_last-requires-clause-there : goal.arrive_by_last-requires-clause-there
arrive_by_last-requires-clause-there c =
    let k = c.in-Some.res.0 in
    let d1 = c.resources.dispatches.items in
    let inv = c.resources.invariant in
    let low : k < length c.args.system.now.resources = omega (arith, inv.there c.in-Some.res c.in-Some.is, c.requires.dispatches) in
    let here : c.index.result.now ≡ dispatch_at d1 k = get_or_read d1 k c.index.result.now (omega (arith, low, inv.given.count_dispatches)) c.index.ensures no_dispatch in
    let t = c.in-Some-ended_on.task.0 in
    let runs : runner c.index.result.now ≡ Some t = c.ended_on.ensures.runs t (ap (option_map place_of) c.in-Some-ended_on.is) in
    (c.requires.runs k t low (ap (option_map place_of) (sym (inv.given.unchanged k low).running) ∙ (ap runner (sym here) ∙ runs))).task

-- what has come so far and comes now is part of what comes in all
pub arrive_by_last-requires-clause-few : goal.arrive_by_last-requires-clause-few
arrive_by_last-requires-clause-few c = λ i less activates.
    let s = c.args.system.now in
    let k = c.in-Some.res.0 in
    let l0 = c.args.queues.now.items in
    let d0 = c.args.dispatches.now.items in
    let l1 = c.resources.queues.items in
    let d1 = c.resources.dispatches.items in
    let inv = c.resources.invariant in
    let low : k < length s.resources = omega (arith, inv.there c.in-Some.res c.in-Some.is, c.requires.dispatches) in
    let given : AreGiven s c.args.places.now.items c.args.now (λ i. ended_below s l0 d0 i k) l0 d0 l1 d1 =
    subst (λ (o : Option ResId). AreGiven s c.args.places.now.items c.args.now (λ i. ended_below s l0 d0 i (upto_resource (length d0) o)) l0 d0 l1 d1) c.in-Some.is inv.given in
    let here : c.index.result.now ≡ dispatch_at d1 k = get_or_read d1 k c.index.result.now (omega (arith, low, given.count_dispatches)) c.index.ensures no_dispatch in
    let t = c.in-Some-ended_on.task.0 in
    let ends : ended_task (dispatch_at d0 k) ≡ Some t =
    sym (ended-unchanged (kind_of s k) (dispatch_at d0 k) (dispatch_at d1 k) (given.unchanged k low)) ∙ (ap ended_task (sym here) ∙ (sym c.ended_on.ensures.value ∙ ap (option_map place_of) c.in-Some-ended_on.is)) in
    let so_far = ap (λ (l : QueueCounts). l.count) (given.arrived i less) in
    let room = ap (λ (l : QueueCounts). l.room) (given.arrived i less) in
    let all = ap length (ended-all s l0 d0 i (placed s c.has_rules.ensures) c.requires.runs (c.requires.single i less)) in
    omega (arith, so_far, room, all, ended-one s l0 (ended_task (dispatch_at d0 k)) t i ends activates, part-le (λ r. by_ended s l0 (ended_task (dispatch_at d0 r)) i) k (length s.resources) low, c.requires.few i less)

pub resources-init : goal.resources-init
resources-init c =
    let s = c.args.system.now in
    let l0 = c.args.queues.now.items in
    let d0 = c.args.dispatches.now.items in
    let place = c.next-place.result in
    record {
      there = next-there d0 0 c.args.ended 0 place c.requires.ended c.next-place.ensures;
      given = given-same s c.args.places.now.items c.args.now (λ i. []) (λ i. ended_below s l0 d0 i (upto_resource (length d0) place)) l0 d0 l0 d0
          (given-none s c.args.places.now.items c.args.now l0 d0 c.requires.queues c.requires.dispatches)
          (λ i less. ended-upto s l0 d0 i c.args.ended 0 place c.requires.ended (omega arith) c.next-place.ensures);
    }

pub resources-preserved : goal.resources-preserved
resources-preserved c =
    let s = c.args.system.now in
    let now = c.args.now in
    let places = c.args.places.now.items in
    let k = c.in-Some.res.0 in
    let l0 = c.args.queues.now.items in
    let d0 = c.args.dispatches.now.items in
    let l1 = c.resources.queues.items in
    let d1 = c.resources.dispatches.items in
    let l2 = c.match-ended_on.queues.items in
    let d2 = c.match-ended_on.dispatches.items in
    let inv = c.resources.invariant in
    let task = option_map place_of c.ended_on.result in
    let low : k < length s.resources = omega (arith, inv.there c.in-Some.res c.in-Some.is, c.requires.dispatches) in
    let given : AreGiven s places now (λ i. ended_below s l0 d0 i k) l0 d0 l1 d1 =
    subst (λ (o : Option ResId). AreGiven s places now (λ i. ended_below s l0 d0 i (upto_resource (length d0) o)) l0 d0 l1 d1) c.in-Some.is inv.given in
    let here : c.index.result.now ≡ dispatch_at d1 k = get_or_read d1 k c.index.result.now (omega (arith, low, given.count_dispatches)) c.index.ensures no_dispatch in
    let is : task ≡ ended_task (dispatch_at d0 k) =
    c.ended_on.ensures.value ∙ (ap ended_task here ∙ ended-unchanged (kind_of s k) (dispatch_at d0 k) (dispatch_at d1 k) (given.unchanged k low)) in
    let on : (j : ℕ) → task ≡ Some j → j < length s.tasks =
    λ j e. (c.requires.runs k j low (ap (option_map place_of) (sym (given.unchanged k low).running) ∙ (ap runner (sym here) ∙ c.ended_on.ensures.runs j e))).task in
    let step : AreGiven s places now (by_ended s l1 task) l1 d1 l2 d2 =
    elim c.match-ended_on.branch [
      | in-Some-ended_on+in_ok-arrive_by_last w ↦
          subst (λ o. AreGiven s places now (by_ended s l1 (option_map place_of o)) l1 d1 l2 d2) (sym w.in-Some-ended_on.is) (rw (w.queues-is, w.dispatches-is) w.in_ok-arrive_by_last.ensures.given)
      | in_default-ended_on w ↦
          rw (w.queues-is, w.dispatches-is)
          (given-same s places now (λ i. []) (by_ended s l1 task) l1 d1 l1 d1 (given-none s places now l1 d1 given.count_queues given.count_dispatches) (λ i less. sym (nobody-ended s l1 c.ended_on.result i w.in_default-ended_on.not-Some)))
    ] in
    let whole = given-then s places now (placed s c.has_rules.ensures) (λ i. ended_below s l0 d0 i k) (by_ended s l1 task) l0 d0 l1 d1 l2 d2 given step in
    let next = c.next-place-in-Some.result in
    record {
      there = next-there d0 0 c.args.ended (k + 1) next c.requires.ended c.next-place-in-Some.ensures;
      given = given-same s places now (λ i. ended_below s l0 d0 i k ++ by_ended s l1 task i) (λ i. ended_below s l0 d0 i (upto_resource (length d0) next)) l0 d0 l2 d2 whole
          (λ i less.
          ap (λ cs. ended_below s l0 d0 i k ++ cs) (by-ended-same s l0 l1 task i (λ j e. ap (λ (l : QueueCounts). l.done) (given.arrived j (on j e))) ∙ ap (λ o. by_ended s l0 o i) is)
          ∙ (sym (flat_map-places_more (λ r. by_ended s l0 (ended_task (dispatch_at d0 r)) i) k)
          ∙ ended-upto s l0 d0 i c.args.ended (k + 1) next c.requires.ended (omega (arith, low, c.requires.dispatches)) c.next-place-in-Some.ensures));
    }

pub returns-clause-given : goal.returns-clause-given
returns-clause-given c =
    let s = c.args.system.now in
    let l0 = c.args.queues.now.items in
    let d0 = c.args.dispatches.now.items in
    let all : upto_resource (length d0) c.resources.place ≡ length s.resources = upto-all (length d0) c.resources.place c.in_default.not-Some ∙ c.requires.dispatches in
    let whole : AreGiven s c.args.places.now.items c.args.now (λ i. ended_below s l0 d0 i (length s.resources)) l0 d0 c.resources.queues.items c.resources.dispatches.items =
    subst (λ m. AreGiven s c.args.places.now.items c.args.now (λ i. ended_below s l0 d0 i m) l0 d0 c.resources.queues.items c.resources.dispatches.items) all c.resources.invariant.given in
    given-same s c.args.places.now.items c.args.now (λ i. ended_below s l0 d0 i (length s.resources)) (by_tasks s (ended_of s l0 d0)) l0 d0 c.resources.queues.items c.resources.dispatches.items whole
    (λ i less. ended-all s l0 d0 i (placed s c.has_rules.ensures) c.requires.runs (c.requires.single i less))
