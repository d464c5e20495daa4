use Rattle.cpa_run.proofs.GrowthLaws.{growth-at}
use Rattle.cpa_run.proofs.performing.slack.Goals as goal

pub returns-clause-answer : goal.returns-clause-answer
returns-clause-answer g c = rw (c.slack_status.ensures, c.in_ok-text.ensures) (growth-at c.args.system.now c.args.task.0 c.in_ok-slack.slack c.has_rules.ensures c.requires c.in_ok-slack.ensures.slack)
