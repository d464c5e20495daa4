use Rattle.std.proofs.Common.{◌≡◌, false, take}
use Rattle.std.specs.List.{list_any}
use Rattle.cpa_units.specs.declared.places.SourceId.{SourceId}
use Rattle.cpa_model.specs.Clocks.{is_clocked}
use Rattle.cpa_model.specs.SystemLists.{source_at, streams_of}
use Rattle.cpa_assign.proofs.able.is_clocked.Given as goal

abbrev pub invariant-loop-k : goal.invariant-loop-k
invariant-loop-k l = list_any (λ (k : SourceId). is_clocked (source_at l.system k.0)) (take l.k (streams_of l.system l.fn.task.0)) ≡ false
