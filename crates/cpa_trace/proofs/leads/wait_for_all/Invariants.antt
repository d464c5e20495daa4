use Rattle.std.proofs.Common.{◌≡◌, true, take}
use Rattle.std.specs.List.{list_all}
use Rattle.cpa_trace.specs.Leads.{allows}
use Rattle.cpa_trace.proofs.leads.wait_for_all.Given as goal

abbrev pub invariant-loop-k : goal.invariant-loop-k
invariant-loop-k l = (allows l.lead l.fn.own ≡ true) × (list_all (allows l.lead) (take l.k l.others) ≡ true)
