use Rattle.std.proofs.Common.{◌≡◌, ℕ, ◌<◌, false, All}
use Rattle.cpa_trace.specs.Leads.{AreLeads}
use Rattle.cpa_trace.specs.Offs.{HasNoneOff}
use Rattle.cpa_trace.proofs.OffLaws.{serves_before, AreKept}
use Rattle.cpa_trace.proofs.clocks.first_on.Given as goal

abbrev pub invariant-loop-k : goal.invariant-loop-k
invariant-loop-k l = record {
  rules : All AreLeads l.others.items;
  kept : AreKept l.system l.trace l.clock.0 l.k l.others.items;
  below : l.lead < l.cycle;
  none : (lead : ℕ) → lead < l.lead → serves_before l.system l.trace l.clock.0 l.k lead ≡ false;
  fine : HasNoneOff l.system l.trace l.clock.0 l.k;
}
