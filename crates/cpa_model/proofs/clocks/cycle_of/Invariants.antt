use Rattle.std.proofs.Common.{◌≡◌, take}
use Rattle.cpa_draft.specs.Clocks.{common_cycle}
use Rattle.cpa_model.specs.Clocks.{clock_periods, of_sources}
use Rattle.cpa_model.proofs.clocks.cycle_of.Given as goal

abbrev pub invariant-loop-source : goal.invariant-loop-source
invariant-loop-source l = l.cycle ≡ common_cycle (clock_periods (of_sources (take l.source-index l.sources)) l.name)
