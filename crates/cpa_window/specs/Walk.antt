-- A walk through the jobs of a busy window, whose demand counts jobs and ticks in numbers.
use Rattle.std.specs.Prelude.{ℕ, ◌+◌, ◌<◌, ◌≤◌}

-- with so many jobs or more, and up to a length, a longer window asks for no more than a further job does
pub record IsSteady (demand : ℕ → ℕ → ℕ) (each jobs from until : ℕ) : Type 0 where
  pub adds : (q v w : ℕ) → jobs ≤ q → from ≤ v → v < w → w ≤ until → demand (q + 1) w ≤ demand q v + each

-- before the window of some jobs is looked for: no length below `from` has room for them, and where `from` is below
-- `steady` it has room itself
pub record IsReady (demand : ℕ → ℕ → ℕ) (each jobs from steady : ℕ) : Type 0 where
  pub crowded : (v : ℕ) → v < from → v < demand jobs v
  pub room : from < steady → demand jobs from ≤ from
  pub onward : IsSteady demand each jobs from steady
