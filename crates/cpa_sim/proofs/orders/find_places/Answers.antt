use Rattle.std.proofs.Common.{◌≡◌, ◌∙◌, ◌+◌, ◌<◌, ℕ, length, map, get_or, sym, ap, subst, arith}
use Rattle.std.proofs.lemmas.List.{length_push, length-map}
use Rattle.cpa_model.specs.declared.entries.Task.{Task}
use Rattle.cpa_model.specs.SystemLists.{task_at, places_of}
use Rattle.cpa_sim.specs.Arrivals.{listed}
use Rattle.cpa_sim.specs.Orders.{IsPlace}
use Rattle.cpa_sim.proofs.ArrivalLaws.{listed-read}
use Rattle.cpa_sim.proofs.SuccessorLaws.{placed}
use Rattle.cpa_sim.proofs.PlaceLaws.{push-more}
use Rattle.cpa_sim.proofs.orders.find_places.Goals as goal

pub loop-k-preserved : goal.loop-k-preserved
loop-k-preserved c =
    let s = c.args.system.now in
    let k = c.loop-k.k in
    let orders = c.args.orders.now.items in
    let lists = map (λ v. v.items) orders in
    let places = c.loop-k.places.items in
    let place = c.place_in.result in
    let inv = c.loop-k.invariant in
    let low : k < length s.tasks = omega (arith, c.loop-k-test.true, c.tasks-k-end.ensures.count) in
    let on : c.task.result.now.res.0 ≡ (task_at s k).res.0 = ap (λ (t : Task). t.res.0) c.task.ensures.value in
    let there : c.task.result.now.res.0 < length orders = omega (arith, on, placed s c.has_rules.ensures k low, c.requires.count, length-map orders (λ v. v.items)) in
    let read = listed-read (λ v. v.items) orders c.task.result.now.res.0 c.index.result.now there c.index.ensures in
    let here : places_of c.as_slice.result.now ≡ places_of (listed lists (task_at s k).res.0) = ap places_of (c.as_slice.ensures.value ∙ sym read ∙ ap (listed lists) on) in
    let e = c.in_ok-push.ensures.items in
    record {
      count = ap length e ∙ (length_push places place ∙ ap (λ n. n + 1) inv.count);
      found = λ i less. rw e
          (push-more (λ i (x : ℕ). (p : ℕ) → p < length (places_of (listed lists (task_at s i).res.0)) → get_or (places_of (listed lists (task_at s i).res.0)) p 0 ≡ i → IsPlace (places_of (listed lists (task_at s i).res.0)) x p) places k place 0 inv.count inv.found
          (subst (λ js. (p : ℕ) → p < length js → get_or js p 0 ≡ k → IsPlace js place p) here c.place_in.ensures) i less);
    }
