use Rattle.std.proofs.Common.{◌≡◌, max, take}
use Rattle.cpa_local.proofs.CeilingLaws.{blocking_of_some}
use Rattle.cpa_local.proofs.ceilings.most_with_sections.Given as goal

abbrev pub invariant-loop-section : goal.invariant-loop-section
invariant-loop-section l = l.longest ≡ max l.most (blocking_of_some l.system l.fn.priority l.fn.lower.0 (take l.section-index l.section-items))
