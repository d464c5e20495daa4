use Rattle.std.proofs.Common.{◌≡◌, ◌++◌, map, take, drop}
use Rattle.cpa_model.specs.Changes.{activator_without}
use Rattle.cpa_model.proofs.activators.close_up_activators.Given as goal

abbrev pub invariant-loop-after : goal.invariant-loop-after
invariant-loop-after l = l.list ≡ map (activator_without l.removed.0) (take l.after-index l.initial.list) ++ drop l.after-index l.initial.list
