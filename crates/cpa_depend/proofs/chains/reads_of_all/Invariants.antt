use Rattle.std.proofs.Common.{◌≡◌, ℕ, ◌<◌, ◌↔◌, [], length, slice_index_or}
use Rattle.cpa_units.specs.Sets.{Members}
use Rattle.cpa_depend.specs.Cone.{Reads}
use Rattle.cpa_depend.proofs.chains.reads_of_all.Given as goal

abbrev pub invariant-loop-place : goal.invariant-loop-place
invariant-loop-place l = record {
  long : length l.all ≡ 128;
  done : (r : ℕ) → r < l.place → (q : ℕ) → Members (slice_index_or l.all r []) q ↔ Reads l.system r q;
}
