use Rattle.std.proofs.Common.{◌≡◌, ◌<◌, ℕ, [], None, length, get_or, All}
use Rattle.std.specs.Bool.{OnFalse}
use Rattle.cpa_model.proofs.SystemLaws.{no_id}
use Rattle.cpa_local.specs.OnClocks.{anchor_list}
use Rattle.cpa_local.proofs.anchoring.find_anchors.Given as goal

abbrev pub invariant-loop-task : goal.invariant-loop-task
invariant-loop-task l = record {
  long : length l.anchors ≡ length l.fn.anchors;
  found : (k : ℕ) → k < l.task-index → get_or l.anchors (get_or l.task-items k no_id).0 [] ≡ anchor_list l.system (get_or l.task-items k no_id).0;
  none : OnFalse l.some ((k : ℕ) → k < l.task-index → All (λ a. a ≡ None) (anchor_list l.system (get_or l.task-items k no_id).0));
}
