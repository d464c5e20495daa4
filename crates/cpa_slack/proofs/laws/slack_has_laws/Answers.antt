use Rattle.cpa_slack.proofs.OneSlackLaws.{slack_exists, slack_is_one}
use Rattle.cpa_slack.proofs.SlackLaws.{longer-rules, less-holds}
use Rattle.cpa_slack.proofs.laws.slack_has_laws.Goals as goal

pub returns-clause-rules : goal.returns-clause-rules
returns-clause-rules c = longer-rules

pub returns-clause-less : goal.returns-clause-less
returns-clause-less c = less-holds

pub returns-clause-some : goal.returns-clause-some
returns-clause-some c = slack_exists

pub returns-clause-one : goal.returns-clause-one
returns-clause-one c = slack_is_one
