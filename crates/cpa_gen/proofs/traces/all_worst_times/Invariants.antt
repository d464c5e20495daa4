use Rattle.std.proofs.Common.{◌≡◌, map}
use Rattle.std.specs.List.{range_with_len}
use Rattle.cpa_model.specs.SystemLists.{source_at}
use Rattle.cpa_gen.specs.MadeTraces.{late_by, times_made, most_made}
use Rattle.cpa_gen.proofs.traces.all_worst_times.Given as goal

abbrev pub invariant-loop-j : goal.invariant-loop-j
invariant-loop-j l = map (λ v. v.items) l.times.items ≡ map (λ j. times_made (most_made l.system) (source_at l.system j) (late_by l.fn.late (source_at l.system j))) (range_with_len 0 l.j)
