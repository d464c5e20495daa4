use Rattle.std.proofs.Common.{◌≡◌, take, map}
use Rattle.cpa_sim.specs.Outcome.{jobs_seen}
use Rattle.cpa_sim.specs.PassageEnds.{job_end}
use Rattle.cpa_sim.proofs.text.ends_at.Given as goal

abbrev pub invariant-loop-k : goal.invariant-loop-k
invariant-loop-k l = l.ends.items ≡ map job_end (take l.k (jobs_seen l.outcome l.task.0))
