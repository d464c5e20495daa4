use Rattle.std.proofs.Common.{◌≡◌, ◌+◌, ◌-◌, inl, inr, arith}
use Rattle.std.proofs.lemmas.Bool.{cases_lt}
use Rattle.cpa_trace.proofs.leads.least_lead.Goals as goal

pub loop-lead-preserved : goal.loop-lead-preserved
loop-lead-preserved c = record {
  begun = omega (arith, c.loop-lead.invariant.begun);
  none = λ lead from less. elim (cases_lt lead c.loop-lead.lead) [
    | inl before ↦ c.loop-lead.invariant.none lead from before
    | inr later ↦
        let e : c.loop-lead.lead + (lead - c.loop-lead.lead) ≡ lead = omega arith in
        rw e at (c.wait_for_all-wait.ensures.first (lead - c.loop-lead.lead) (omega arith))
  ];
}
