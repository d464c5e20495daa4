use Rattle.std.proofs.Common.{◌≤◌}
use Rattle.cpa_units.specs.Sizes.{most_tasks}
use Rattle.cpa_run.specs.Steps.{IsUnderWay}
use Rattle.cpa_run.proofs.session.run_session.Given as goal

-- the steps so far were taken and their texts sent
abbrev pub invariant-loop-k : goal.invariant-loop-k
invariant-loop-k g l =
    IsUnderWay l.fn.system l.script l.k l.session (g.K.Sink.sent l.fn.sink) (g.K.Sink.sent l.sink)
    × (most_tasks l.session.size ≤ l.trail.room) × (g.K.Sink.faults l.fn.sink ≤ g.K.Sink.faults l.sink)
