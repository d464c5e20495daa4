use Rattle.cpa_assign.proofs.KeptLaws.{order_keeps_rules}
use Rattle.cpa_assign.proofs.DecidedLaws.{orders_are_decided}
use Rattle.cpa_assign.proofs.OneOrderLaws.{best_order_is_one}
use Rattle.cpa_assign.proofs.TradeLaws.{fewer_above}
use Rattle.cpa_assign.proofs.laws.orders_have_laws.Goals as goal

pub returns-clause-rules : goal.returns-clause-rules
returns-clause-rules c = order_keeps_rules

pub returns-clause-fewer : goal.returns-clause-fewer
returns-clause-fewer c = fewer_above

pub returns-clause-decided : goal.returns-clause-decided
returns-clause-decided c = orders_are_decided

pub returns-clause-one : goal.returns-clause-one
returns-clause-one c = best_order_is_one
