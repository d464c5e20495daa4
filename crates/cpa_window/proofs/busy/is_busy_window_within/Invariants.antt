use Rattle.std.proofs.Common.{◌≤◌}
use Rattle.cpa_events.specs.Events.{delta_minus}
use Rattle.cpa_window.proofs.WalkLaws.{IsUnderWay}
use Rattle.cpa_window.proofs.busy.is_busy_window_within.Given as goal

abbrev pub invariant-loop-jobs : goal.invariant-loop-jobs
invariant-loop-jobs g l = record {
  walk : IsUnderWay (g.B.BusyWindow.demand l.busy) (g.B.BusyWindow.each l.busy) (delta_minus l.own) l.limit l.jobs l.from l.steady l.arrival l.greatest;
  within : l.greatest ≤ l.most;
}
