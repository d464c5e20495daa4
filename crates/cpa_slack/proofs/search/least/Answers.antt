use Rattle.cpa_local.specs.Trails.{AreMarked}
use Rattle.cpa_local.specs.Rising.{TasksOn}
use Rattle.cpa_fix.specs.Readings.{IsDirty}
use Rattle.cpa_fix.proofs.SolveLaws.{all-dirty}
use Rattle.cpa_slack.proofs.search.least.Goals as goal

pub returns-clause-marked : goal.returns-clause-marked
returns-clause-marked g c =
    let s = c.args.system.now in
    let marked : AreMarked c.solve.new.trail (TasksOn s (IsDirty s c.in_ok-kept.kept c.args.start)) = c.in_ok-solution.ensures.marked in
    λ i less. (rw c.in_ok-kept.ensures.value at marked) i (all-dirty s c.args.start i c.has_rules.ensures less)
