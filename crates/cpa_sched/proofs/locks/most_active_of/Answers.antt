use Rattle.std.proofs.Common.{◌≡◌, ◌∙◌, Some, option_map, take, get_or, sym, ap}
use Rattle.cpa_units.specs.declared.places.TaskId.{TaskId}
use Rattle.cpa_model.specs.Locks.{sections_of}
use Rattle.cpa_model.specs.SystemLists.{places_of, priority_of, task_at}
use Rattle.cpa_sched.specs.Locks.{urgency, urgency_of}
use Rattle.cpa_sched.specs.declared.locks.Candidate.{Candidate}
use Rattle.cpa_sched.proofs.OptionLaws.{for-some}
use Rattle.cpa_sched.proofs.ScanLaws.{places-more}
use Rattle.cpa_sched.proofs.LeastLaws.{least-alone, least-then, least-idle}
use Rattle.cpa_sched.proofs.locks.most_active_of.Goals as goal
use Rattle.cpa_sched.proofs.locks.most_active_of.Goals.{then-waits+in-None, then-waits+in-Some, else-waits}

pub loop-task-preserved : goal.loop-task-preserved
loop-task-preserved g c =
    let s = c.args.system.now in
    let q = g.Q.Queue.ready c.args.queue.now in
    let number = urgency_of s q.received in
    let done = places_of (take c.loop-task.task-index c.args.tasks.now) in
    let task : TaskId = get_or c.args.tasks.now c.loop-task.task-index (record { 0 = 0 }) in
    let more = places-more c.args.tasks.now c.loop-task.task-index (record { 0 = 0 }) c.loop-task-test.true in
    let place : Candidate → _ = λ (x : Candidate). x.task.0 in
    let P : Candidate → Type 0 = λ x. number x.task.0 ≡ x.urgency in
    let inv = c.loop-task.invariant in
    elim c.if-waits.branch [
      | then-waits+in-None w ↦
          let none = sym inv.found ∙ ap (option_map place) w.in-None.is in
          let value = w.urgency_after-urgency.ensures ∙ ap (urgency (priority_of (task_at s task.0).turn) (sections_of s task.0)) w.received.ensures in
          record {
            found = rw (more, w.first-is) (sym (least-alone number q.waits done task.0 (sym c.waits.ensures ∙ w.if-waits.true) none));
            urgency = for-some P _ (record { task = task; urgency = w.urgency_after-urgency.result }) w.first-is (sym value);
          }
      | then-waits+in-Some w ↦
          let some = sym inv.found ∙ ap (option_map place) w.in-Some.is in
          let value = w.urgency_after-urgency.ensures ∙ ap (urgency (priority_of (task_at s task.0).turn) (sections_of s task.0)) w.received.ensures in
          let other = inv.urgency w.in-Some.other w.in-Some.is in
          let then = least-then number q.waits done task.0 w.in-Some.other.task.0 (sym c.waits.ensures ∙ w.if-waits.true) some in
          record {
            found = rw (more, w.first-is) (ap Some (w.more_active.ensures.task number other (sym value)) ∙ sym then);
            urgency = for-some P _ w.more_active.result w.first-is (w.more_active.ensures.urgency number other (sym value));
          }
      | else-waits w ↦
          record {
            found = rw (more, w.first-is) (inv.found ∙ sym (least-idle number q.waits done task.0 (sym c.waits.ensures ∙ w.if-waits.false)));
            urgency = rw w.first-is inv.urgency;
          }
    ]
