use Rattle.std.proofs.Common.{◌≡◌, ◌≤◌, ◌*◌, take}
use Rattle.std.specs.List.{sum_by}
use Rattle.cpa_units.specs.declared.places.SourceId.{SourceId}
use Rattle.cpa_model.specs.SystemLists.{source_at, streams_of}
use Rattle.cpa_gen.specs.MadeTraces.{events_made}
use Rattle.cpa_gen.proofs.traces.jobs_by.Given as goal

abbrev pub invariant-loop-k : goal.invariant-loop-k
invariant-loop-k l = record {
  sum : l.jobs ≡ sum_by (λ (k : SourceId). events_made l.most (source_at l.system k.0)) (take l.k (streams_of l.system l.task.0));
  few : l.jobs ≤ 100 * l.k;
}
