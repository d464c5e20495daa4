use Rattle.std.proofs.Common.{◌≡◌, ◌++◌, map, take, drop}
use Rattle.cpa_units.specs.Words.{word_of}
use Rattle.cpa_kept.proofs.numbers.put_bounds.Given as goal

abbrev pub invariant-loop-k : goal.invariant-loop-k
invariant-loop-k l = l.out ≡ take l.k (map word_of l.bounds) ++ drop l.k l.initial.out
