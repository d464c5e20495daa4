use Rattle.std.proofs.Common.{◌≡◌, ◌<◌, ℕ, false, None, Some}
use Rattle.cpa_units.specs.Sets.{holds, Members}
use Rattle.cpa_fix.specs.declared.readings.Reading.{Reading}
use Rattle.cpa_fix.specs.Readings.{reading_of}
use Rattle.cpa_workers.proofs.round_end.missing.Given as goal

abbrev pub invariant-loop-place : goal.invariant-loop-place
invariant-loop-place l = record {
  lacks : (r : ℕ) → Members l.set r → Members l.dirty r × (reading_of l.found r ≡ None);
  has : (r : ℕ) → r < l.place → Members l.dirty r → holds l.set r ≡ false → (reading : Reading) × (reading_of l.found r ≡ Some reading);
}
