use Rattle.cpa_local.proofs.CycleLaws.{cycle-in_range, slot-in_cycle}
use Rattle.cpa_local.proofs.analysis.tdma.Goals as goal

pub respond-requires-clause-own_slot : goal.respond-requires-clause-own_slot
respond-requires-clause-own_slot c =
    rw (c.slot.ensures, c.requires.cycle, c.task-entry.ensures.value) (slot-in_cycle c.args.system.now c.args.task.0 c.requires.there)

pub respond-requires-clause-cycle : goal.respond-requires-clause-cycle
respond-requires-clause-cycle c =
    rw (c.requires.cycle, ← c.task-entry.ensures.value) (cycle-in_range c.args.system.now c.requires.rules c.task-entry.result.now.res.0 c.task-entry.ensures.rules.placed)
