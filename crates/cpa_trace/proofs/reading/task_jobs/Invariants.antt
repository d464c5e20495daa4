use Rattle.std.proofs.Common.{◌≡◌, ◌≤◌, ◌*◌, ◌^◌, length, take}
use Rattle.std.specs.List.{sum_by}
use Rattle.cpa_units.specs.declared.places.SourceId.{SourceId}
use Rattle.cpa_model.specs.SystemLists.{streams_of}
use Rattle.cpa_trace.specs.Trace.{times_of}
use Rattle.cpa_trace.proofs.reading.task_jobs.Given as goal

abbrev pub invariant-loop-k : goal.invariant-loop-k
invariant-loop-k l = record {
  sum : l.jobs ≡ sum_by (λ (k : SourceId). length (times_of l.trace k.0)) (take l.k (streams_of l.system l.task.0));
  small : l.jobs ≤ 2 ^ 64 * l.k;
}
