use Rattle.std.proofs.Common.{◌≡◌, max, take}
use Rattle.cpa_units.specs.Sets.{holds}
use Rattle.cpa_assign.specs.Placing.{placed_sections, without}
use Rattle.cpa_assign.proofs.below.most_with_sections.Given as goal

abbrev pub invariant-loop-section : goal.invariant-loop-section
invariant-loop-section l =
    l.longest ≡ max l.most (placed_sections l.system l.fn.res.0 (without (holds l.free) l.fn.task.0) l.fn.task.0 l.lower.worst (take l.section-index l.section-items))
