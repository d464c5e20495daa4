use Rattle.std.proofs.Common.{◌≡◌, ◌∙◌, ◌+◌, ◌-◌, ◌<◌, ℕ, List, length, None, sym, ap, subst, arith}
use Rattle.std.specs.Prelude.{All, option_and_then}
use Rattle.std.proofs.lemmas.List.{get_or-map, length-map}
use Rattle.std.proofs.lemmas.List.Elements.{All-get_or}
use Rattle.std.proofs.lemmas.Option.{get_or_from_slice_get}
use Rattle.cpa_units.specs.declared.places.TaskId.{TaskId}
use Rattle.cpa_sim.specs.Outcome.{no_job_seen, jobs_seen, job_at}
use Rattle.cpa_model.specs.declared.entries.Path.{Path}
use Rattle.cpa_sim.specs.SimText.{first_task, next_job}
use Rattle.cpa_sim.specs.PassageEnds.{end_in, job_end, place_at, AreEnds}
use Rattle.cpa_sim.proofs.PassageLaws.{ends-last, ends-before}
use Rattle.cpa_sim.proofs.text.passage_ends.Goals as goal

-- a task of a path is one of the system
task-there : (tasks : List TaskId) (n k : ℕ) (task : TaskId) → All (λ (t : TaskId). t.0 < n) tasks → k < length tasks → place_at tasks k ≡ task.0 → task.0 < n
task-there tasks n k task all low is = subst (λ i. i < n) is (All-get_or (λ (t : TaskId). t.0 < n) tasks k (record { 0 = 0 }) low all)

pub tasks-init : goal.tasks-init
tasks-init c =
    let o = c.args.outcome.now in
    let tasks = c.path.result.now.tasks in
    let k = c.len-k.result - 1 in
    let none : TaskId = record { 0 = 0 } in
    let ends = c.in_ok-ends.ends.items in
    let items = c.in_ok-ends.ensures in
    let place : place_at tasks k ≡ c.get.result.0 = ap (λ (t : TaskId). t.0) (get_or_from_slice_get tasks k c.get.result none c.get.ensures) in
    record {
      low = omega (arith, c.len-k.ensures, c.path.ensures.rules.some);
      count = ap length items ∙ (length-map (jobs_seen o c.get.result.0) job_end ∙ ap (λ i. length (jobs_seen o i)) (sym place));
      ends = ends-last o tasks k ends (omega (arith, c.len-k.ensures, c.path.ensures.rules.some))
          (λ m there.
          ap (λ xs. end_in xs m) items
          ∙ (get_or-map job_end (jobs_seen o c.get.result.0) m no_job_seen None (omega (arith, there, ap (λ i. length (jobs_seen o i)) place)) ∙ ap (λ i. (job_at o i m).end) (sym place)));
    }

pub tasks-preserved : goal.tasks-preserved
tasks-preserved c =
    let o = c.args.outcome.now in
    let tasks = c.path.result.now.tasks in
    let k = c.tasks.k - 1 in
    let none : TaskId = record { 0 = 0 } in
    let old = c.as_slice.result.now in
    let inv = c.tasks.invariant in
    let s : k + 1 ≡ c.tasks.k = omega (arith, c.tasks-test.true) in
    let here : place_at tasks k ≡ c.get-in-tasks.result.0 = ap (λ (t : TaskId). t.0) (get_or_from_slice_get tasks k c.get-in-tasks.result none c.get-in-tasks.ensures) in
    let next : place_at tasks (k + 1) ≡ c.get-in-tasks-2.result.0 = ap (λ (t : TaskId). t.0) (get_or_from_slice_get tasks (k + 1) c.get-in-tasks-2.result none c.get-in-tasks-2.ensures) in
    record {
      low = omega (arith, inv.low);
      count = c.in_ok-ends-2.ensures.count ∙ ap (λ i. length (jobs_seen o i)) (sym here);
      ends = ends-before o tasks k old c.in_ok-ends-2.ends.items (omega (arith, inv.low, s)) (subst (λ q. AreEnds o tasks q old) (sym s) (subst (AreEnds o tasks c.tasks.k) (sym c.as_slice.ensures.value) inv.ends))
          (λ m there.
          c.in_ok-ends-2.ensures.ends m (omega (arith, there, ap (λ i. length (jobs_seen o i)) here))
          ∙ (ap (λ i. option_and_then (end_in old) (next_job o i m c.get-in-tasks-2.result.0)) (sym here) ∙ ap (λ i. option_and_then (end_in old) (next_job o (place_at tasks k) m i)) (sym next)));
    }

pub ends_before-requires-clause-all : goal.ends_before-requires-clause-all
ends_before-requires-clause-all c =
    let o = c.args.outcome.now in
    let tasks = c.path.result.now.tasks in
    let k = c.tasks.k - 1 in
    let none : TaskId = record { 0 = 0 } in
    let s : c.tasks.k ≡ k + 1 = omega (arith, c.tasks-test.true) in
    let next : place_at tasks (k + 1) ≡ c.get-in-tasks-2.result.0 = ap (λ (t : TaskId). t.0) (get_or_from_slice_get tasks (k + 1) c.get-in-tasks-2.result none c.get-in-tasks-2.ensures) in
    ap length c.as_slice.ensures.value ∙ (c.tasks.invariant.count ∙ ap (λ i. length (jobs_seen o i)) (ap (place_at tasks) s ∙ next))

pub returns-clause-count : goal.returns-clause-count
returns-clause-count c =
    let zero : c.tasks.k ≡ 0 = omega (arith, c.tasks-test.false) in
    c.tasks.invariant.count ∙ ap (λ i. length (jobs_seen c.args.outcome.now i)) (ap (place_at c.path.result.now.tasks) zero ∙ ap first_task c.path.ensures.value)

pub returns-clause-ends : goal.returns-clause-ends
returns-clause-ends c =
    let o = c.args.outcome.now in
    let ends = c.tasks.ends.items in
    let zero : c.tasks.k ≡ 0 = omega (arith, c.tasks-test.false) in
    subst (λ (p : Path). AreEnds o p.tasks 0 ends) c.path.ensures.value (subst (λ q. AreEnds o c.path.result.now.tasks q ends) zero c.tasks.invariant.ends)

pub ends_at-requires : goal.ends_at-requires
ends_at-requires c =
    let tasks = c.path.result.now.tasks in
    let k = c.len-k.result - 1 in
    let low : k < length tasks = omega (arith, c.len-k.ensures, c.path.ensures.rules.some) in
    let place : place_at tasks k ≡ c.get.result.0 = ap (λ (t : TaskId). t.0) (get_or_from_slice_get tasks k c.get.result (record { 0 = 0 }) c.get.ensures) in
    subst (λ n. c.get.result.0 < n) (sym c.requires.belongs) (task-there tasks (length c.args.system.now.tasks) k c.get.result c.path.ensures.rules.there low place)

pub ends_before-requires-clause-task : goal.ends_before-requires-clause-task
ends_before-requires-clause-task c =
    let tasks = c.path.result.now.tasks in
    let k = c.tasks.k - 1 in
    let low : k < length tasks = omega (arith, c.tasks.invariant.low) in
    let place : place_at tasks k ≡ c.get-in-tasks.result.0 = ap (λ (t : TaskId). t.0) (get_or_from_slice_get tasks k c.get-in-tasks.result (record { 0 = 0 }) c.get-in-tasks.ensures) in
    subst (λ n. c.get-in-tasks.result.0 < n) (sym c.requires.belongs) (task-there tasks (length c.args.system.now.tasks) k c.get-in-tasks.result c.path.ensures.rules.there low place)

pub ends_before-requires-clause-next : goal.ends_before-requires-clause-next
ends_before-requires-clause-next c =
    let tasks = c.path.result.now.tasks in
    let k = c.tasks.k - 1 + 1 in
    let low : k < length tasks = omega (arith, c.tasks.invariant.low, c.tasks-test.true) in
    let place : place_at tasks k ≡ c.get-in-tasks-2.result.0 = ap (λ (t : TaskId). t.0) (get_or_from_slice_get tasks k c.get-in-tasks-2.result (record { 0 = 0 }) c.get-in-tasks-2.ensures) in
    subst (λ n. c.get-in-tasks-2.result.0 < n) (sym c.requires.belongs) (task-there tasks (length c.args.system.now.tasks) k c.get-in-tasks-2.result c.path.ensures.rules.there low place)
