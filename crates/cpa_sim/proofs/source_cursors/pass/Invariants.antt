use Rattle.std.proofs.Common.{◌≡◌, ℕ, ◌≤◌, ◌<◌, ◌-◌, length, get_or}
use Rattle.cpa_trace.specs.Trace.{times_of}
use Rattle.cpa_sim.proofs.source_cursors.pass.Given as goal

abbrev pub invariant-events : goal.invariant-events
invariant-events l = record {
  within : l.at ≤ length (times_of l.trace l.source.0);
  later : l.next ≤ l.at;
  here : (n : ℕ) → l.next ≤ n → n < l.at → get_or (times_of l.trace l.source.0) n 0 ≡ l.now;
  from : (n : ℕ) → l.at ≤ n → n < length (times_of l.trace l.source.0) → l.now ≤ get_or (times_of l.trace l.source.0) n 0;
}

abbrev pub decreases-events : goal.decreases-events
decreases-events l = length (times_of l.trace l.source.0) - l.at
