use Rattle.std.proofs.Common.{◌≡◌, ◌-◌, ◌<◌, ℕ, length}
use Rattle.cpa_sim.specs.Outcome.{jobs_seen}
use Rattle.cpa_sim.specs.PassageEnds.{end_in}
use Rattle.cpa_sim.proofs.PassageLaws.{found_from}
use Rattle.cpa_sim.proofs.text.ends_before.Given as goal

abbrev pub invariant-loop-k : goal.invariant-loop-k
invariant-loop-k l = record {
  count : length l.before.items ≡ length (jobs_seen l.outcome l.task.0);
  ends : (m : ℕ) → m < length (jobs_seen l.outcome l.task.0) → end_in l.before.items m ≡ found_from (jobs_seen l.outcome l.next.0) l.task.0 l.ends (l.count - l.k) m;
}
