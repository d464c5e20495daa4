use Rattle.std.proofs.Common.{ap, sym}
use Rattle.cpa_run.specs.Request.{order_status}
use Rattle.cpa_run.proofs.performing.order_status.Goals as goal

pub returns-in-Some : goal.returns-in-Some
returns-in-Some c = ap order_status (sym c.in-Some.is)
