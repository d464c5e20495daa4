use Rattle.std.proofs.Common.{◌≡◌, ◌++◌, map, take, drop}
use Rattle.cpa_model.specs.Clocks.{renewed}
use Rattle.cpa_model.proofs.clocks.renew.Given as goal

abbrev pub invariant-loop-entry : goal.invariant-loop-entry
invariant-loop-entry l = l.kept ≡ map (renewed l.clock.0 l.cycle) (take l.entry-index l.initial.kept) ++ drop l.entry-index l.initial.kept
