use Rattle.cpa_fifo.proofs.FifoBoundLaws.{fifo_bound-mono, fifo_bound-limit, fifo_bound-ge, fifo_bound-in_window, fifo_bound-same}
use Rattle.cpa_fifo.proofs.bounds_have_laws.Goals as goal

pub returns-clause-grow : goal.returns-clause-grow
returns-clause-grow c = fifo_bound-mono

pub returns-clause-in_range : goal.returns-clause-in_range
returns-clause-in_range c own worst rivals limit m = (fifo_bound-ge own worst rivals limit m, fifo_bound-limit own worst rivals limit)

pub returns-clause-in_window : goal.returns-clause-in_window
returns-clause-in_window c own worst rivals limit = fifo_bound-in_window own worst rivals limit

pub returns-clause-by_work : goal.returns-clause-by_work
returns-clause-by_work c own own' worst worst' rivals rivals' limit same = fifo_bound-same own own' worst worst' rivals rivals' limit same
