use Rattle.cpa_events.proofs.EventLaws.{one-in_range}
use Rattle.cpa_events.proofs.model.Model.one.Goals as goal

pub returns-clause-in_range : goal.returns-clause-in_range
returns-clause-in_range c = rw c.of.ensures (one-in_range c.args.stream c.requires)
