-- Clocks that a task isn't on: of each the most that its streams can ask for, wherever a window starts (Tindell; Palencia and
-- González Harbour).
use Rattle.std.specs.Prelude.{ℕ, zero, suc, ◌<◌, ◌≤◌, max, List, length, All, sum_by}
use Rattle.cpa_units.specs.declared.limits.TheConstants.{MAX_PERIOD, MAX_SOURCES}
use Rattle.cpa_phase.specs.declared.placed.Placed.{Placed}
use Rattle.cpa_phase.specs.declared.clock.Clock.{Clock}
use Rattle.cpa_phase.specs.Streams.{work_from, IsCandidate, ArePlaced, IsPlacedOn}

-- the greatest of f 1 to f last
unfoldable pub most_of : (ℕ → ℕ) → ℕ → ℕ
most_of f zero = 0
most_of f (suc last) = max (most_of f last) (f (suc last))

-- the most work of the streams of a clock in a window, wherever in a cycle it starts
abbrev pub clock_work : List Placed → ℕ → ℕ → ℕ
clock_work streams cycle window = most_of (λ x. work_from streams x window) cycle

-- that of several clocks
abbrev pub clocks_work : List Clock → ℕ → ℕ
clocks_work clocks window = sum_by (λ (c : Clock). clock_work c.streams.items c.cycle window) clocks

-- a clock whose numbers the analysis can compute with
pub record IsClock (c : Clock) : Type 0 where
  pub some : 0 < c.cycle
  pub short : c.cycle ≤ MAX_PERIOD
  pub placed : ArePlaced c.streams.items
  pub whole : All (IsPlacedOn c.cycle) c.streams.items

pub record AreClocks (clocks : List Clock) : Type 0 where
  pub few : length clocks ≤ MAX_SOURCES
  pub each : All IsClock clocks

-- no candidate of this stream in a cycle has more work
abbrev pub IsMostFromCandidates : Clock → ℕ → Placed → ℕ → Type 0
IsMostFromCandidates c window p most = (x : ℕ) → 0 < x → x ≤ c.cycle → IsCandidate p x → work_from c.streams.items x window ≤ most
