use Rattle.std.proofs.Common.{refl}
use Rattle.cpa_file.proofs.entries.kind_named.Goals as goal

pub returns-in-preemptive : goal.returns-in-preemptive
returns-in-preemptive c = rw (c.in-preemptive.is) refl

pub returns-in-text : goal.returns-in-text
returns-in-text c = rw (c.in-text.is) refl

pub returns-in-tdma : goal.returns-in-tdma
returns-in-tdma c = rw (c.in-tdma.is) refl

pub returns-in-can : goal.returns-in-can
returns-in-can c = rw (c.in-can.is) refl

pub returns-in-fifo : goal.returns-in-fifo
returns-in-fifo c = rw (c.in-fifo.is) c.later_kind.ensures

pub returns-in-ceiling : goal.returns-in-ceiling
returns-in-ceiling c = rw (c.in-ceiling.is) c.later_kind-in-ceiling.ensures
