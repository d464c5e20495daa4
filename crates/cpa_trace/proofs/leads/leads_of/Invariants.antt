use Rattle.std.proofs.Common.{◌≡◌, ◌+◌, ◌-◌, ◌*◌, ◌^◌, ◌<◌}
use Rattle.cpa_units.specs.declared.limits.TheConstants.{MAX_PERIOD}
use Rattle.cpa_trace.specs.Breaches.{latest_begin, earliest_end}
use Rattle.cpa_trace.proofs.leads.leads_of.Given as goal

abbrev pub invariant-loop-n : goal.invariant-loop-n
invariant-loop-n l = record {
  begin : l.begin ≡ latest_begin l.source.period l.times (l.n - 1);
  end : l.end ≡ earliest_end l.source.period l.times (l.n - 1);
  early : l.begin < 2 ^ 64;
  small : l.end < 2 ^ 64 + l.n * MAX_PERIOD;
}
