use Rattle.std.proofs.Common.{◌≡◌, false, take}
use Rattle.std.specs.List.{list_any}
use Rattle.cpa_model.specs.SystemLists.{is_sporadic, streams_of}
use Rattle.cpa_effects.proofs.bounds.may_fall_silent.Given as goal

abbrev pub invariant-loop-k : goal.invariant-loop-k
invariant-loop-k l = list_any (is_sporadic l.system) (take l.k (streams_of l.system l.task.0)) ≡ false
