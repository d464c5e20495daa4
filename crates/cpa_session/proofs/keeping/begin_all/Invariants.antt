use Rattle.std.proofs.Common.{◌≤◌, ◌-◌}
use Rattle.cpa_session.proofs.AnewLaws.{IsPartlyAnew}
use Rattle.cpa_session.proofs.keeping.begin_all.Given as goal

abbrev pub invariant-members : goal.invariant-members
invariant-members l = record {
  small : l.from ≤ 128;
  anew : IsPartlyAnew l.system l.fn.reset l.fn.y l.y l.from;
}

abbrev pub decreases-members : goal.decreases-members
decreases-members l = 128 - l.from
