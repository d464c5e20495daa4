-- A search through the candidates of the critical instant.
use Rattle.std.specs.Prelude.{ℕ, ◌<◌, ◌≤◌, List, length, slice_index_or}
use Rattle.cpa_units.specs.declared.bound.Bound.{Bound}
use Rattle.cpa_units.specs.Bounds.{IsAtMost}
use Rattle.cpa_phase.specs.declared.placed.Placed.{Placed}
use Rattle.cpa_phase.specs.Streams.{phase_at, IsCandidate}

-- a bound by the moment at which a window starts is no smaller where no stream's phase is longer; `d` stands for no stream
abbrev pub GrowsNearer : Placed → List Placed → (ℕ → Bound) → Type 0
GrowsNearer d streams bound =
    (x y : ℕ) → ((j : ℕ) → j < length streams → phase_at (slice_index_or streams j d) y ≤ phase_at (slice_index_or streams j d) x) → IsAtMost (bound x) (bound y)

-- no candidate of this stream in a cycle gives more
abbrev pub IsGreatestFromCandidates : (ℕ → Bound) → ℕ → Placed → Bound → Type 0
IsGreatestFromCandidates bound cycle p b = (x : ℕ) → 0 < x → x ≤ cycle → IsCandidate p x → IsAtMost (bound x) b
