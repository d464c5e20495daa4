use Rattle.std.proofs.Common.{◌≡◌, ◌≤◌, take}
use Rattle.std.specs.Prelude.{filter}
use Rattle.cpa_units.specs.declared.limits.TheConstants.{MAX_EXECUTION}
use Rattle.cpa_model.specs.SystemLists.{is_higher, places_of}
use Rattle.cpa_local.specs.Blocking.{blocking_between}
use Rattle.cpa_local.proofs.BlockingLaws.{greatest_in}
use Rattle.cpa_local.proofs.neighbours.blocking.Given as goal

abbrev pub invariant-loop-other : goal.invariant-loop-other
invariant-loop-other l = record {
  found : l.most ≡ greatest_in (blocking_between l.system l.fn.kind l.fn.task.0) (filter (λ j. is_higher l.system j l.fn.task.0) (places_of (take l.other-index l.other-items)));
  small : l.most ≤ MAX_EXECUTION;
}
