use Rattle.std.proofs.Common.{◌≡◌, ℕ, ◌+◌, ◌-◌, ◌<◌, ◌≤◌, true, false, length}
use Rattle.cpa_trace.specs.Leads.{leaves_with}
use Rattle.cpa_trace.proofs.leads.first_off.Given as goal

abbrev pub invariant-loop-low : goal.invariant-loop-low
invariant-loop-low l = record {
  order : l.low ≤ l.high;
  there : l.high < length l.times;
  off : leaves_with l.source l.times l.others l.cycle (l.high + 1) ≡ false;
  left : (n : ℕ) → n < l.low → leaves_with l.source l.times l.others l.cycle (n + 1) ≡ true;
}

abbrev pub decreases-loop-low : goal.decreases-loop-low
decreases-loop-low l = l.high - l.low
