use Rattle.std.proofs.Common.{◌≡◌, ◌<◌, ℕ, [], false, length, slice_index_or}
use Rattle.cpa_draft.specs.DraftLists.{no_task}
use Rattle.cpa_draft.specs.Search.{is_short, HaveSameNames}
use Rattle.cpa_draft.proofs.paths.long_lists.Given as goal

abbrev pub invariant-loop-task : goal.invariant-loop-task
invariant-loop-task l = record {
  long : length l.lists.items ≡ l.task-index;
  names : (i : ℕ) → i < l.task-index → is_short (slice_index_or l.tasks i no_task).after ≡ false → HaveSameNames (slice_index_or l.tasks i no_task).after (slice_index_or l.lists.items i []);
}
