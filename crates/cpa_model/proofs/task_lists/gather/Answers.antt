use Rattle.std.proofs.Common.{length, refl, ap}
use Rattle.cpa_draft.proofs.ListLaws.{get_or-any}
use Rattle.cpa_model.specs.declared.entries.Task.{Task as Entry}
use Rattle.cpa_model.specs.SystemLists.{no_task}
use Rattle.cpa_model.proofs.ResourceTaskLaws.{task_lists-none, task_lists-more}
use Rattle.cpa_model.proofs.task_lists.gather.Goals as goal

pub loop-k-init : goal.loop-k-init
loop-k-init c = rw (c.in_ok-task_lists.ensures) (task_lists-none (length c.args.resources.now) c.args.tasks.now)

pub loop-k-preserved : goal.loop-k-preserved
loop-k-preserved c =
    let same = get_or-any c.args.tasks.now c.loop-k.k no_task c.index-tasks-k.result c.loop-k-test.true in
    rw (c.in_ok-list_task.ensures.ok)
    (task_lists-more (length c.args.resources.now) c.args.tasks.now c.loop-k.k _ (record { 0 = c.loop-k.k }) c.loop-k.task_lists.items refl (ap (λ (t : Entry). t.res.0) same)
    (c.requires.placed c.loop-k.k c.index-tasks-k.result c.loop-k-test.true) c.loop-k.invariant)
