use Rattle.std.proofs.Common.{◌≡◌, ◌∙◌, Some, true, option_map, take, get_or, sym, ap}
use Rattle.cpa_units.specs.declared.places.TaskId.{TaskId}
use Rattle.cpa_model.specs.SystemLists.{place_of, places_of}
use Rattle.cpa_sched.proofs.OptionLaws.{for-some}
use Rattle.cpa_sched.proofs.ScanLaws.{places-more}
use Rattle.cpa_sched.proofs.LeastLaws.{least-alone, least-then, least-idle}
use Rattle.cpa_sched.proofs.fifo.earliest.Goals as goal
use Rattle.cpa_sched.proofs.fifo.earliest.Goals.{then-waits+in-None, then-waits+in-Some, else-waits}

pub loop-task-preserved : goal.loop-task-preserved
loop-task-preserved g c =
    let q = g.Q.Queue.ready c.args.queue.now in
    let done = places_of (take c.loop-task.task-index c.args.tasks.now) in
    let task : TaskId = get_or c.args.tasks.now c.loop-task.task-index (record { 0 = 0 }) in
    let more = places-more c.args.tasks.now c.loop-task.task-index (record { 0 = 0 }) c.loop-task-test.true in
    let P : TaskId → Type 0 = λ t. q.waits t.0 ≡ true in
    elim c.if-waits.branch [
      | then-waits+in-None v ↦
          let none = sym c.loop-task.invariant.found ∙ ap (option_map place_of) v.in-None.is in
          let here = sym c.waits.ensures ∙ v.if-waits.true in
          record {
            found = rw (more, v.first-is) (sym (least-alone q.arrival q.waits done task.0 here none));
            waits = for-some P _ task v.first-is here;
          }
      | then-waits+in-Some v ↦
          let some = sym c.loop-task.invariant.found ∙ ap (option_map place_of) v.in-Some.is in
          let then = least-then q.arrival q.waits done task.0 v.in-Some.other.0 (sym c.waits.ensures ∙ v.if-waits.true) some in
          record {
            found = rw (more, v.first-is) (ap Some v.earlier.ensures.value ∙ sym then);
            waits = for-some P _ v.earlier.result v.first-is v.earlier.ensures.waits;
          }
      | else-waits v ↦
          record {
            found = rw (more, v.first-is) (c.loop-task.invariant.found ∙ sym (least-idle q.arrival q.waits done task.0 (sym c.waits.ensures ∙ v.if-waits.false)));
            waits = rw v.first-is c.loop-task.invariant.waits;
          }
    ]
