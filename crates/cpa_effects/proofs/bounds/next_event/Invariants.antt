use Rattle.std.proofs.Common.{◌≡◌, ◌≤◌, fold, take}
use Rattle.std.specs.Prelude.{slice_index_or}
use Rattle.cpa_effects.specs.Bounds.{next_of, sooner}
use Rattle.cpa_effects.proofs.bounds.next_event.Given as goal

abbrev pub invariant-loop-k : goal.invariant-loop-k
invariant-loop-k l = record {
  least : l.least ≡ fold sooner (next_of (slice_index_or l.model 0 (record { period = 0; jitter = 0; distance = 0 }))) (take l.k l.model);
  few : l.least ≤ 5200000000;
}
