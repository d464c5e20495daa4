use Rattle.std.proofs.Common.{◌≡◌, ◌+◌, ◌*◌}
use Rattle.cpa_units.specs.Bounds.{RespectsLimit}
use Rattle.cpa_effects.specs.Bounds.{arrives_after, renewed_after}
use Rattle.cpa_effects.proofs.bounds.age_by.Given as goal

abbrev pub invariant-loop-k : goal.invariant-loop-k
invariant-loop-k l = record {
  old : l.old ≡ arrives_after l.reading l.system l.x l.tasks l.k;
  renewed : l.renewed ≡ renewed_after l.reading l.system l.x l.tasks l.k;
  few : RespectsLimit ((l.k + 1) * 5300000000) l.renewed;
  small : RespectsLimit ((l.k + 1) * 5300000000) l.old;
}
