use Rattle.std.proofs.Common.{◌≡◌, map, take, All}
use Rattle.cpa_units.specs.declared.places.SourceId.{SourceId}
use Rattle.cpa_events.specs.Streams.{IsStreamInRange}
use Rattle.cpa_model.specs.SystemLists.{streams_of}
use Rattle.cpa_model.specs.Streams.{source_stream}
use Rattle.cpa_assign.proofs.placing.sources_model.Given as goal

abbrev pub invariant-loop-k : goal.invariant-loop-k
invariant-loop-k l = record {
  found : l.model ≡ map (λ (k : SourceId). source_stream l.system k.0) (take l.k (streams_of l.system l.task.0));
  each : All IsStreamInRange l.model;
}
