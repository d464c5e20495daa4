use Rattle.std.proofs.Common.{◌≡◌, false, length, length-append, arith, sym, ◌∙◌}
use Rattle.cpa_draft.specs.Search.{is_short, HaveSameNames}
use Rattle.cpa_draft.proofs.NameLaws.{long-more, long-all, long-none}
use Rattle.cpa_draft.proofs.paths.long_lists.Goals as goal

pub returns-then-are_short : goal.returns-then-are_short
returns-then-are_short c =
    rw c.new-lists.ensures.items (long-none c.args.draft.now (rw c.task_entries-tasks.ensures at (sym c.are_short.ensures ∙ c.if-are_short.true)))

pub loop-task-preserved : goal.loop-task-preserved
loop-task-preserved c =
    let own : is_short c.task-item.result.after ≡ false → HaveSameNames c.task-item.result.after c.in_ok-long_list.field-0 = rw c.names.ensures at c.in_ok-long_list.ensures in
    let more = long-more c.task_entries-tasks.result.now c.loop-task.lists.items c.loop-task.task-index c.task-item.result c.in_ok-long_list.field-0 (omega arith) c.task-item.is c.loop-task.invariant.long own c.loop-task.invariant.names in
    record {
      long = rw (c.in_ok-push.ensures.items, length-append) (omega arith);
      names = rw c.in_ok-push.ensures.items more;
    }

pub returns : goal.returns
returns c =
    let ended : length c.task_entries-tasks.result.now ≡ c.loop-task.task-index = omega arith in
    let count : length c.args.draft.now.tasks ≡ c.loop-task.task-index = rw c.task_entries-tasks.ensures at ended in
    long-all c.args.draft.now c.loop-task.lists.items
    (λ i below. rw c.task_entries-tasks.ensures at (c.loop-task.invariant.names i (omega (arith, below, count))))
