-- Where a bound is no smaller from where no phase is longer, the candidates of the critical instant give the greatest.
use Rattle.std.proofs.Common.{ℕ, ◌<◌, ◌≤◌, List, ◌∷◌, length, All, slice_index_or}
use Rattle.cpa_units.specs.declared.bound.Bound.{Bound}
use Rattle.cpa_units.specs.Bounds.{IsAtMost, greatest_of}
use Rattle.cpa_units.proofs.BoundLaws.{IsAtMost_trans, greatest_of-le}
use Rattle.cpa_phase.specs.declared.placed.Placed.{Placed}
use Rattle.cpa_phase.specs.Streams.{IsCandidate, IsPlacedOn}
use Rattle.cpa_phase.proofs.CandidateLaws.{cover}
use Rattle.cpa_offset.specs.Candidates.{GrowsNearer}

-- some candidate in the first cycle is as bad as any moment
pub candidate_is_enough : (bound : ℕ → Bound) (own : Placed) (joint : List Placed) (cycle x : ℕ) → GrowsNearer own (own ∷ joint) bound → 0 < cycle → All (IsPlacedOn cycle) (own ∷ joint) → (k y : ℕ) × (k < length (own ∷ joint)) × (0 < y) × (y ≤ cycle) × IsCandidate (slice_index_or (own ∷ joint) k own) y × IsAtMost (bound x) (bound y)
candidate_is_enough bound own joint cycle x nearer some on =
    let there = cover own own joint cycle x some on in
    (there.0, there.1, there.2, there.3, there.4, there.5, nearer x there.1 there.6)

-- where no candidate gives more than b, the greatest is no more
pub greatest_from_candidates-le : (bound : ℕ → Bound) (own : Placed) (joint : List Placed) (cycle : ℕ) (b : Bound) → GrowsNearer own (own ∷ joint) bound → 0 < cycle → All (IsPlacedOn cycle) (own ∷ joint) → ((k y : ℕ) → k < length (own ∷ joint) → 0 < y → y ≤ cycle → IsCandidate (slice_index_or (own ∷ joint) k own) y → IsAtMost (bound y) b) → IsAtMost (greatest_of bound cycle) b
greatest_from_candidates-le bound own joint cycle b nearer some on h =
    greatest_of-le bound cycle b
    (λ x one le.
    let there = candidate_is_enough bound own joint cycle x nearer some on in
    IsAtMost_trans (bound x) (bound there.1) b there.6 (h there.0 there.1 there.2 there.3 there.4 there.5))
