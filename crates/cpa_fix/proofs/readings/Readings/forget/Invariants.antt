use Rattle.std.proofs.Common.{◌≡◌, ℕ, ◌<◌, length, None, false}
use Rattle.cpa_units.specs.Sets.{holds}
use Rattle.cpa_units.specs.Sets.{Members}
use Rattle.cpa_fix.specs.Readings.{reading_of}
use Rattle.cpa_fix.proofs.readings.Readings.forget.Given as goal

abbrev pub invariant-loop-place : goal.invariant-loop-place
invariant-loop-place l = record {
  long : length l.self-inside.kept.items ≡ length l.initial.self-inside.kept.items;
  gone : (r : ℕ) → r < l.place → Members l.set r → reading_of l.self-inside.kept.items r ≡ None;
  same : (r : ℕ) → holds l.set r ≡ false → reading_of l.self-inside.kept.items r ≡ reading_of l.initial.self-inside.kept.items r;
}
