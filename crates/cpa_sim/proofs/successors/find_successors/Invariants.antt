use Rattle.std.proofs.Common.{map}
use Rattle.cpa_sim.specs.Arrivals.{AreSuccessors}
use Rattle.cpa_sim.proofs.successors.find_successors.Given as goal

abbrev pub invariant-loop-k : goal.invariant-loop-k
invariant-loop-k l = AreSuccessors l.system l.k (map (λ v. v.items) l.successors.by_source.items) (map (λ v. v.items) l.successors.by_task.items)
