use Rattle.std.proofs.Common.{◌∙◌, sym}
use Rattle.cpa_slack.proofs.SlackLaws.{longer-none}
use Rattle.cpa_slack.proofs.search.most_ticks.Goals as goal

pub halve-requires-clause-longer : goal.halve-requires-clause-longer
halve-requires-clause-longer g c κs within = (0, c.in_ok-system.ensures ∙ sym (longer-none c.args.growth.now.system.now c.args.growth.now.task.0 c.args.growth.now.there))
