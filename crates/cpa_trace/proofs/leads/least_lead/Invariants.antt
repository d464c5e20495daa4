use Rattle.std.proofs.Common.{◌≡◌, ℕ, ◌-◌, ◌<◌, ◌≤◌, false}
use Rattle.cpa_trace.specs.Leads.{allowed_by}
use Rattle.cpa_trace.proofs.leads.least_lead.Given as goal

abbrev pub invariant-loop-lead : goal.invariant-loop-lead
invariant-loop-lead l = record {
  begun : l.fn.from ≤ l.lead;
  none : (lead : ℕ) → l.fn.from ≤ lead → lead < l.lead → allowed_by l.fn.own l.others lead ≡ false;
}

abbrev pub decreases-loop-lead : goal.decreases-loop-lead
decreases-loop-lead l = l.cycle - l.lead
