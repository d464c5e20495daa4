-- How far the events of a source have passed.
use Rattle.std.specs.Prelude.{ℕ, ◌<◌, ◌≤◌, List, length, slice_index_or}
use Rattle.cpa_sim.specs.declared.source_cursors.SourceCursor.{SourceCursor}

-- what stands outside the list
abbrev pub no_cursor : SourceCursor
no_cursor = record { next = 0; time = 0 }

-- the events from `next` on come after this time, and the others don't
pub record IsPassed (times : List ℕ) (now next : ℕ) : Type 0 where
  pub within : next ≤ length times
  pub before : (n : ℕ) → n < next → slice_index_or times n 0 ≤ now
  pub from : (n : ℕ) → next ≤ n → n < length times → now < slice_index_or times n 0

-- the events from `next` on come at this time or later, and the others before it
pub record IsAhead (times : List ℕ) (now next : ℕ) : Type 0 where
  pub within : next ≤ length times
  pub before : (n : ℕ) → n < next → slice_index_or times n 0 < now
  pub from : (n : ℕ) → next ≤ n → n < length times → now ≤ slice_index_or times n 0
