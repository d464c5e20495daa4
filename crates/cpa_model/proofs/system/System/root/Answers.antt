use Rattle.cpa_model.proofs.SystemLaws.{streams_of-some}
use Rattle.cpa_model.proofs.system.System.root.Goals as goal

pub stream-requires-clause-stream : goal.stream-requires-clause-stream
stream-requires-clause-stream c = streams_of-some c.args.self.now c.has_rules.ensures c.args.task.0 c.requires
