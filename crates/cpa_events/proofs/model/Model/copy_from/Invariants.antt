use Rattle.std.proofs.Common.{◌≡◌, take}
use Rattle.cpa_events.proofs.model.Model.copy_from.Given as goal

abbrev pub invariant-loop-k : goal.invariant-loop-k
invariant-loop-k l = l.self ≡ take l.k l.other
