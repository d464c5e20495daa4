use Rattle.std.proofs.Common.{◌≡◌}
use Rattle.cpa_draft.specs.Search.{StayKnown}
use Rattle.cpa_draft.proofs.SearchLaws.{IsWalk, at, work}
use Rattle.cpa_draft.proofs.chains.measure_new.Given as goal

abbrev pub invariant-walk : goal.invariant-walk
invariant-walk l = record {
  walk : IsWalk l.links l.marks l.below.items l.visit;
  first : (at l.below.items l.visit 0).task ≡ l.first;
  stay : StayKnown l.fn.marks l.marks;
}

abbrev pub decreases-walk : goal.decreases-walk
decreases-walk l = work l.links l.marks l.below.items l.visit
