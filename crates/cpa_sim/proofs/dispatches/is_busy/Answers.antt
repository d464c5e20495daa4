use Rattle.std.proofs.Common.{◌≡◌, ◌<◌, true, length, get_or, sym, ◌∙◌, ap, arith}
use Rattle.std.proofs.lemmas.List.{get_or_read, get_or-map, length-map}
use Rattle.std.proofs.lemmas.List.Folds.{list_any_at}
use Rattle.cpa_units.specs.declared.places.TaskId.{TaskId}
use Rattle.cpa_model.specs.SystemLists.{place_of, places_of}
use Rattle.cpa_sim.specs.JobQueues.{no_queue, has_pending}
use Rattle.cpa_sim.specs.Simulation.{waiting}
use Rattle.cpa_sim.proofs.dispatches.is_busy.Goals as goal

pub returns-then-waits : goal.returns-then-waits
returns-then-waits c =
    let queues = c.args.queues.now in
    let tasks = c.args.tasks.now in
    let k = c.loop-task.task-index in
    let task : TaskId = get_or tasks k (record { 0 = 0 }) in
    let there : k < length (places_of tasks) = omega (arith, length-map tasks place_of, c.loop-task-test.true) in
    let place = get_or-map place_of tasks k (record { 0 = 0 }) 0 c.loop-task-test.true in
    let queue = get_or_read queues task.0 c.index-queues-task.result (c.requires k (record { 0 = 0 }) c.loop-task-test.true) c.index-queues-task.is no_queue in
    let here : waiting queues task.0 ≡ true = ap has_pending (sym queue) ∙ (sym c.waits.ensures ∙ c.if-waits.true) in
    sym (list_any_at (waiting queues) (places_of tasks) k 0 there (ap (waiting queues) place ∙ here))
