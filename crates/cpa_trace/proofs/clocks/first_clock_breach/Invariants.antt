use Rattle.std.proofs.Common.{◌≡◌, ℕ, ◌<◌, ◌≤◌, true, length}
use Rattle.std.specs.Option.{is_some}
use Rattle.cpa_trace.specs.Breaches.{clock_breach}
use Rattle.cpa_trace.specs.Offs.{HasNoneOff}
use Rattle.cpa_trace.proofs.clocks.first_clock_breach.Given as goal

abbrev pub invariant-loop-c : goal.invariant-loop-c
invariant-loop-c l = record {
  within : l.until ≤ length l.system.sources;
  first : l.first ≡ clock_breach l.system l.trace l.until;
  some : l.until < length l.system.sources → is_some l.first ≡ true;
  fine : (c : ℕ) → c < l.c → HasNoneOff l.system l.trace c l.until;
}
