use Rattle.std.proofs.Common.{◌≡◌, length}
use Rattle.std.specs.List.{sum_by, range_with_len}
use Rattle.cpa_sim.specs.Outcome.{jobs_seen}
use Rattle.cpa_gen.proofs.observation.jobs_in.Given as goal

abbrev pub invariant-loop-k : goal.invariant-loop-k
invariant-loop-k l = l.jobs ≡ sum_by (λ i. length (jobs_seen l.outcome i)) (range_with_len 0 l.k)
