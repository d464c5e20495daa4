use Rattle.std.proofs.Common.{ℕ, ◌<◌, ◌≤◌, ◌-◌}
use Rattle.cpa_units.specs.Sets.{Members}
use Rattle.cpa_fix.specs.Stale.{AgreeOn}
use Rattle.cpa_fix.proofs.solving.differs.Given as goal

abbrev pub invariant-others : goal.invariant-others
invariant-others l = record {
  small : l.from ≤ 128;
  agree : (q : ℕ) → q < l.from → Members l.fn.read q → AgreeOn l.system q l.seen l.x;
}

abbrev pub decreases-others : goal.decreases-others
decreases-others l = 128 - l.from
