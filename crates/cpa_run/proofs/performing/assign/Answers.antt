use Rattle.cpa_run.proofs.GrowthLaws.{assigned-at}
use Rattle.cpa_run.proofs.performing.assign.Goals as goal

pub returns-clause-answer : goal.returns-clause-answer
returns-clause-answer c = rw (c.order_status.ensures, c.in_ok-text.ensures) (assigned-at c.args.system.now c.args.res.0 c.in_ok-order.order c.has_rules.ensures c.requires c.in_ok-order.ensures)
