use Rattle.std.proofs.Common.{take}
use Rattle.cpa_draft.specs.Search.{HaveSameNames}
use Rattle.cpa_draft.proofs.names.different.Given as goal

abbrev pub invariant-loop-name : goal.invariant-loop-name
invariant-loop-name l = HaveSameNames (take l.name-index l.names) l.found
