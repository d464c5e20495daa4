use Rattle.std.proofs.Common.{◌≡◌, ◌<◌, ◌⊎◌, ℕ, false, length}
use Rattle.cpa_units.specs.Sets.{holds}
use Rattle.cpa_fix.specs.Readings.{reading_of}
use Rattle.cpa_session.proofs.keeping.copy_members.Given as goal

abbrev pub invariant-loop-place : goal.invariant-loop-place
invariant-loop-place l = record {
  long : length l.readings ≡ length l.fn.readings;
  same : (r : ℕ) → r < length l.from → (r < l.place) ⊎ (holds l.fn.members r ≡ false) → reading_of l.readings r ≡ reading_of l.from r;
}
