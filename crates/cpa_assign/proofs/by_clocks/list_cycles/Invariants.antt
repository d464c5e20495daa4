use Rattle.std.proofs.Common.{◌≡◌, map}
use Rattle.std.specs.List.{range_with_len}
use Rattle.cpa_model.specs.Clocks.{clock_cycle}
use Rattle.cpa_assign.proofs.by_clocks.list_cycles.Given as goal

abbrev pub invariant-loop-place : goal.invariant-loop-place
invariant-loop-place l = l.cycles.items ≡ map (clock_cycle l.system) (range_with_len 0 l.place)
