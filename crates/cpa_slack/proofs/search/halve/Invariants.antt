use Rattle.std.proofs.Common.{◌≡◌, ◌+◌, ◌-◌, ◌<◌, ◌≤◌, length}
use Rattle.cpa_local.specs.Solution.{least_of}
use Rattle.cpa_local.specs.Trails.{IsKept, NewMarksAre}
use Rattle.cpa_slack.specs.Slack.{longer, IsLonger, Holds}
use Rattle.cpa_slack.proofs.search.halve.Given as goal

abbrev pub invariant-loop-past : goal.invariant-loop-past
invariant-loop-past g l = record {
  tried : IsLonger l.growth.system.now l.growth.task.0 l.trial.system;
  least_held : l.trial.held ≡ least_of (longer l.growth.system.now l.growth.task.0 l.holding);
  below : l.holding < l.past;
  top : l.past ≤ l.growth.most + 1;
  holds : Holds (longer l.growth.system.now l.growth.task.0 l.holding);
  fails : l.past ≤ l.growth.most → ¬ Holds (longer l.growth.system.now l.growth.task.0 l.past);
  kept : IsKept l.fn.trail l.trail;
  fresh : NewMarksAre l.fn.trail l.trail (λ i. i < length l.growth.system.now.tasks);
  room : length l.growth.system.now.tasks ≤ l.trail.room;
}

abbrev pub decreases-loop-past : goal.decreases-loop-past
decreases-loop-past g l = l.past - l.holding
