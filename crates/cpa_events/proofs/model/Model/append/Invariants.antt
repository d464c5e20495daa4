use Rattle.std.proofs.Common.{◌≡◌, ◌++◌, take}
use Rattle.cpa_events.proofs.model.Model.append.Given as goal

abbrev pub invariant-loop-k : goal.invariant-loop-k
invariant-loop-k l = l.self ≡ l.initial.self ++ take l.k l.other
