use Rattle.cpa_sched.proofs.CeilingLaws.{ceiling-waits, ceiling-first, ceiling-busy, ceiling-stays}
use Rattle.cpa_sched.proofs.locks.ceilings_have_laws.Goals as goal

pub returns-clause-busy : goal.returns-clause-busy
returns-clause-busy c = ceiling-busy

pub returns-clause-waits : goal.returns-clause-waits
returns-clause-waits c = ceiling-waits

pub returns-clause-first : goal.returns-clause-first
returns-clause-first c = ceiling-first

pub returns-clause-stays : goal.returns-clause-stays
returns-clause-stays c = ceiling-stays
