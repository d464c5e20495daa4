use Rattle.cpa_depend.proofs.ChainLaws.{Reads-in_range}
use Rattle.cpa_fix.proofs.solving.differs.Goals as goal

pub differs_on-requires-clause-in_range : goal.differs_on-requires-clause-in_range
differs_on-requires-clause-in_range c =
    Reads-in_range c.args.system.now c.args.res.0 c.in-Some.other.0 c.has_rules.ensures c.requires.in_range ((c.requires.read c.in-Some.other.0).0 c.in-Some.ensures.member)
