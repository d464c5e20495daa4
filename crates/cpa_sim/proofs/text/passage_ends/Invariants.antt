use Rattle.std.proofs.Common.{◌≡◌, ◌<◌, length}
use Rattle.cpa_sim.specs.Outcome.{jobs_seen}
use Rattle.cpa_sim.specs.PassageEnds.{place_at, AreEnds}
use Rattle.cpa_sim.proofs.text.passage_ends.Given as goal

abbrev pub invariant-tasks : goal.invariant-tasks
invariant-tasks l = record {
  low : l.k < length l.tasks;
  count : length l.ends.items ≡ length (jobs_seen l.outcome (place_at l.tasks l.k));
  ends : AreEnds l.outcome l.tasks l.k l.ends.items;
}

abbrev pub decreases-tasks : goal.decreases-tasks
decreases-tasks l = l.k
