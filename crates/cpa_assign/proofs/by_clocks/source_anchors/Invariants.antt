use Rattle.std.proofs.Common.{◌≡◌, map, take}
use Rattle.cpa_units.specs.declared.places.SourceId.{SourceId}
use Rattle.cpa_model.specs.SystemLists.{streams_of}
use Rattle.cpa_local.specs.OnClocks.{source_anchor}
use Rattle.cpa_assign.proofs.by_clocks.source_anchors.Given as goal

abbrev pub invariant-loop-k : goal.invariant-loop-k
invariant-loop-k l = l.anchors.items ≡ map (λ (k : SourceId). source_anchor l.system k.0) (take l.k (streams_of l.system l.fn.task.0))
