use Rattle.std.proofs.Common.{◌≡◌, take}
use Rattle.std.specs.List.{flat_map}
use Rattle.cpa_model.specs.SystemLists.{places_of}
use Rattle.cpa_sim.specs.Outcome.{jobs_seen}
use Rattle.cpa_buffer.specs.Peaks.{arrivals_of, ends_of}
use Rattle.cpa_buffer.proofs.peaks.resource_peak.Given as goal

abbrev pub invariant-loop-task : goal.invariant-loop-task
invariant-loop-task l = record {
  arrivals : l.arrivals.items ≡ flat_map (λ i. arrivals_of (jobs_seen l.outcome i)) (take l.task-index (places_of l.task-items));
  ends : l.ends.items ≡ flat_map (λ i. ends_of (jobs_seen l.outcome i)) (take l.task-index (places_of l.task-items));
}
