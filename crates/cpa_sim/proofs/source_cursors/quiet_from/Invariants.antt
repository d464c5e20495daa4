use Rattle.std.proofs.Common.{◌≡◌, ℕ, ◌+◌, ◌≤◌, take, nat_lt, nat_le}
use Rattle.std.specs.List.{list_any}
use Rattle.cpa_units.specs.declared.limits.TheConstants.{MAX_TRACE_TIME}
use Rattle.cpa_sim.proofs.source_cursors.quiet_from.Given as goal

abbrev pub invariant-loop-k : goal.invariant-loop-k
invariant-loop-k l = record {
  value : (t : ℕ) → list_any (λ times. list_any (λ time. nat_le t time) times) (take l.k l.trace.times) ≡ nat_lt t l.quiet;
  small : l.quiet ≤ MAX_TRACE_TIME + 1;
}
