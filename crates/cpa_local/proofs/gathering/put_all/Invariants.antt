use Rattle.cpa_local.specs.Gathered.{so_far}
use Rattle.cpa_local.proofs.GatherLaws.{IsPutting}
use Rattle.cpa_local.proofs.gathering.put_all.Given as goal

abbrev pub invariant-loop-k : goal.invariant-loop-k
invariant-loop-k l = IsPutting (so_far l.fn.none l.fn.found) l.model l.way.late l.way.least l.k l.first l.found
