use Rattle.cpa_sched.proofs.FifoLaws.{fifo-waits, fifo-first, fifo-busy, fifo-again, fifo-stays}
use Rattle.cpa_sched.proofs.fifo.fifo_has_laws.Goals as goal

pub returns-clause-busy : goal.returns-clause-busy
returns-clause-busy c = fifo-busy

pub returns-clause-waits : goal.returns-clause-waits
returns-clause-waits c = fifo-waits

pub returns-clause-first : goal.returns-clause-first
returns-clause-first c = fifo-first

pub returns-clause-stays : goal.returns-clause-stays
returns-clause-stays c = fifo-stays

pub returns-clause-goes_on : goal.returns-clause-goes_on
returns-clause-goes_on c = fifo-again
