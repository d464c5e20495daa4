use Rattle.std.proofs.Common.{◌≡◌, map}
use Rattle.std.specs.List.{range_with_len}
use Rattle.cpa_model.specs.SystemLists.{path_at}
use Rattle.cpa_sim.specs.SimText.{passage}
use Rattle.cpa_sim.proofs.text.passages.Given as goal

abbrev pub invariant-loop-m : goal.invariant-loop-m
invariant-loop-m l = l.passages.items ≡ map (passage l.outcome (path_at l.system l.fn.path.0)) (range_with_len 0 l.m)
