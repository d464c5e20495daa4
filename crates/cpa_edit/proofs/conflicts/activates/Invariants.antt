use Rattle.std.proofs.Common.{◌≡◌, false}
use Rattle.std.specs.List.{list_any, range_with_len}
use Rattle.cpa_model.specs.SystemLists.{is_activated_by}
use Rattle.cpa_edit.proofs.conflicts.activates.Given as goal

abbrev pub invariant-loop-place : goal.invariant-loop-place
invariant-loop-place l = list_any (is_activated_by l.system l.task.0) (range_with_len 0 l.place) ≡ false
